use Rattle.std.proofs.Common.{◌≡◌, ℕ, ◌<◌, Some}
use Rattle.std.specs.Prelude.{slice_get}
use Rattle.bd_slice.specs.declared.graph.SupportNode.{SupportNode}
use Rattle.bd_slice.specs.inner.Runs.{StandsAt}
use Rattle.bd_slice.proofs.slice.stands.Given as goal

abbrev pub invariant-loop-i : goal.invariant-loop-i
invariant-loop-i l = (k : ℕ) → k < l.i → (n : SupportNode) → slice_get l.nodes k ≡ Some n → StandsAt l.marks k n
