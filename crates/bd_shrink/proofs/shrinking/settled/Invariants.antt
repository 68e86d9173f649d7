use Rattle.std.proofs.Common.{sum_by}
use Rattle.bd_shrink.specs.Shrunk.{leaves}
use Rattle.bd_shrink.specs.inner.Asked.{ShowsBy}
use Rattle.bd_shrink.proofs.shrinking.settled.Given as goal

abbrev pub invariant-loop-left : goal.invariant-loop-left
invariant-loop-left l = ShowsBy l.question l.left.items

abbrev pub decreases-loop-left : goal.decreases-loop-left
decreases-loop-left l = sum_by leaves l.left.items
