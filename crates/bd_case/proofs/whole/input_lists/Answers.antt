use Rattle.std.proofs.Common.{arith}
use Rattle.bd_case.proofs.Remaining.{inputs_step}
use Rattle.bd_case.proofs.whole.input_lists.Goals as goal

pub loop-cycle-preserved : goal.loop-cycle-preserved
loop-cycle-preserved c =
    inputs_step c.loop-cycle.lists.items _ _ c.args.cycles c.loop-cycle.cycle c.args.tables.now _ (omega arith) c.in_ok-inputs.ensures c.in_ok-push.ensures.items c.loop-cycle.invariant
