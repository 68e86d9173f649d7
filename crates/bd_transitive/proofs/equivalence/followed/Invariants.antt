use Rattle.std.proofs.Common.{◌≡◌, ℕ, ◌<◌, slice_index}
use Rattle.bd_transitive.specs.inner.Links.{AreFollowed}
use Rattle.bd_transitive.proofs.equivalence.followed.Given as goal

abbrev pub invariant-loop-place : goal.invariant-loop-place
invariant-loop-place l = record {
  done : AreFollowed l.links l.ends.items l.place;
  ahead : (p : ℕ) → p < l.place → slice_index l.ends.items p ≡ p;
}
