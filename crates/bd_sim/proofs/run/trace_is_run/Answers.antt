use Rattle.std.proofs.Common.{zero, suc, refl, arith}
use Rattle.bd_model.specs.Cycle.{step}
use Rattle.bd_sim.specs.Trace.{TraceIsRun}
use Rattle.bd_sim.proofs.run.trace_is_run.Goals as goal

is_run : TraceIsRun
is_run d interp state inputs zero zero h = refl
is_run d interp state inputs zero (suc k) h = absurd (omega (arith, h))
is_run d interp state inputs (suc n) zero h = refl
is_run d interp state inputs (suc n) (suc k) h = is_run d interp (step d.pipe interp state inputs) inputs n k (omega (arith, h))

pub returns : goal.returns
returns c = is_run
