use Rattle.std.proofs.Common.{arith, below_more}
use Rattle.bd_shrink.proofs.Lowered.{small}
use Rattle.bd_shrink.specs.inner.Asked.{IsLeast}
use Rattle.bd_shrink.proofs.search.lowered.Goals as goal

pub loop-place-preserved : goal.loop-place-preserved
loop-place-preserved c = below_more (IsLeast c.args.question.now c.args.fates.now.items) _ c.loop-place.invariant (rw c.in-None.is at c.in_ok-less.ensures)

pub returns : goal.returns
returns c = small c.args.question.now c.args.fates.now.items c.loop-place.place (omega arith) c.loop-place.invariant
