use Rattle.bd_shrink.proofs.Lowered.{smaller}
use Rattle.bd_shrink.proofs.shrinking.settled.Goals as goal

pub loop-left-smaller : goal.loop-left-smaller
loop-left-smaller c = smaller c.args.question.now c.loop-left.left.items c.in-Some.less.items (rw c.in-Some.is at c.in_ok-less.ensures)
