use Rattle.bd_shrink.specs.inner.Asked.{ShowsBy}
use Rattle.bd_shrink.proofs.pass.lowered_once.Given as goal

abbrev pub invariant-loop-place : goal.invariant-loop-place
invariant-loop-place l = ShowsBy l.question l.left.items
