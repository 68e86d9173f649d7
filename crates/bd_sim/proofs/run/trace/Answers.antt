use Rattle.std.proofs.Common.{arith}
use Rattle.bd_model.specs.DesignView.{machine_view}
use Rattle.bd_sim.proofs.Cycles.{trace_more, joined}
use Rattle.bd_sim.proofs.run.trace.Goals as goal

pub loop-cycle-preserved : goal.loop-cycle-preserved
loop-cycle-preserved c =
    let more = trace_more c.args.cycles c.loop-cycle._cycle (machine_view c.args.design.now.pipe) c.args.case.now.interp c.loop-cycle.state c.args.case.now.inputs (omega arith) in
    let front = rw (← c.in_ok-next.ensures) at more in
    joined _ _ _ _ _ _ c.in_ok-push.ensures.items front c.loop-cycle.invariant
