use Rattle.std.proofs.Common.{ℕ, ◌<◌}
use Rattle.bd_shrink.specs.inner.Asked.{IsLeast}
use Rattle.bd_shrink.proofs.search.lowered.Given as goal

abbrev pub invariant-loop-place : goal.invariant-loop-place
invariant-loop-place l = (i : ℕ) → i < l.place → IsLeast l.question l.fates.items i
