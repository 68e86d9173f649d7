use Rattle.std.proofs.Common.{◌≡◌, ℕ, ◌<◌, Some}
use Rattle.std.specs.Prelude.{slice_get}
use Rattle.bd_model.specs.declared.case.Case.{Case}
use Rattle.bd_slice.specs.Places.{AgreesOn}
use Rattle.bd_slice.specs.declared.graph.SupportNode.{SupportNode}
use Rattle.bd_slice.specs.inner.Runs.{HasPlaceAt}
use Rattle.bd_slice.proofs.slice.places_of.Given as goal

abbrev pub invariant-loop-i : goal.invariant-loop-i
invariant-loop-i l = (c other : Case) → AgreesOn c l.places.items other → (k : ℕ) → k < l.i → (n : SupportNode) → slice_get l.nodes k ≡ Some n → HasPlaceAt c other l.marks k n
