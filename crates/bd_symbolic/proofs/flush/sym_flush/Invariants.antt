use Rattle.std.proofs.Common.{◌-◌}
use Rattle.bd_model.specs.DesignView.{design_view}
use Rattle.bd_symbolic.proofs.Cycles.{FlushesSo}
use Rattle.bd_symbolic.proofs.flush.sym_flush.Given as goal

abbrev pub invariant-loop-cycle : goal.invariant-loop-cycle
invariant-loop-cycle l = FlushesSo (design_view l.design) l.fn.graph l.graph l.state l.flushed (l.design.flush - l._cycle)
