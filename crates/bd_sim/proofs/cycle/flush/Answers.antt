use Rattle.std.proofs.Common.{arith}
use Rattle.bd_model.specs.DesignView.{machine_view}
use Rattle.bd_sim.proofs.Cycles.{flush_more}
use Rattle.bd_sim.proofs.cycle.flush.Goals as goal

pub loop-cycle-preserved : goal.loop-cycle-preserved
loop-cycle-preserved c =
    let more = flush_more c.args.design.now.flush c.loop-cycle._cycle (machine_view c.args.design.now.pipe) c.args.interp.now c.loop-cycle.flushed (omega arith) in
    let next = c.in_ok-flushed-2.ensures in
    let given = c.in_ok-inputs.ensures in
    cc
