-- The places of marked nodes decide what rests on them.
use Rattle.std.proofs.Common.{◌≡◌, ℕ, Bool, true, List, [], ◌∷◌, get_or, IsTrue, Some, refl, sym, ◌∙◌}
use Rattle.std.specs.Prelude.{slice_get, slice_index_or}
use Rattle.std.proofs.lemmas.Option.{get_or_from_slice_get}
use Rattle.bd_model.specs.DesignView.{DesignView}
use Rattle.bd_model.specs.Fits.{Fits}
use Rattle.bd_model.specs.declared.case.Case.{Case}
use Rattle.bd_slice.specs.Places.{AgreesAt, AgreesOn}
use Rattle.bd_slice.specs.Columns.{Decides, shown}
use Rattle.bd_slice.specs.inner.Followed.{Other, Brings, Holds, Follows}
use Rattle.bd_slice.specs.inner.Runs.{StandsMarked, HasPlaces}
use Rattle.bd_slice.specs.declared.graph.SupportNode.{SupportNode}
use Rattle.bd_slice.specs.declared.graph.SupportNode.TheVariants as node
use Rattle.bd_slice.specs.declared.kept.Traced.{Traced}
use Rattle.bd_slice.specs.declared.place.CasePlace.{CasePlace}
use Rattle.bd_slice.specs.declared.place.CasePlace.TheVariants as place
use Rattle.bd_slice.specs.declared.place.Column.{Column}
use Rattle.bd_slice.specs.declared.place.Location.{Location}

-- a case agrees with itself
agrees_at_itself : (c : Case) (p : CasePlace) → AgreesAt c c p
agrees_at_itself c (place.Latch i) = refl
agrees_at_itself c (place.Cell i a) = refl
agrees_at_itself c (place.Input i) = refl
agrees_at_itself c (place.Row f args) = refl

agrees_with_itself : (c : Case) (places : List CasePlace) → AgreesOn c places c
agrees_with_itself c [] = tt
agrees_with_itself c (p ∷ ps) = (agrees_at_itself c p, agrees_with_itself c ps)

-- the item at the next place
pub item_is : (nodes : List SupportNode) (i : ℕ) (x n : SupportNode) → x ≡ get_or nodes i x → slice_get nodes i ≡ Some n → x ≡ n
item_is nodes i x n is at = is ∙ get_or_from_slice_get nodes i n x at

-- another case, where the slice has the marked nodes
abbrev marked : List Bool → Case → Other
marked marks other = record { case = other; has = λ i. slice_index_or marks i true }

brings : (c other : Case) (nodes : List SupportNode) (marks : List Bool) (places : List CasePlace) → StandsMarked nodes marks → HasPlaces nodes marks places → AgreesOn c places other → (i : ℕ) (n : SupportNode) → slice_get nodes i ≡ Some n
    → IsTrue (slice_index_or marks i true) → Brings c (marked marks other) n
brings c other nodes marks places stands has agrees i node.Nothing at here = tt
brings c other nodes marks places stands has agrees i (node.Place p) at here = has c other agrees i (node.Place p) at p refl here
brings c other nodes marks places stands has agrees i (node.Both a b) at here = stands i (node.Both a b) at a b refl here

holds : (c other : Case) (nodes : List SupportNode) (marks : List Bool) (places : List CasePlace) → StandsMarked nodes marks → HasPlaces nodes marks places → IsTrue (slice_index_or marks 0 true) → AgreesOn c places other
    → Holds c nodes (marked marks other)
holds c other nodes marks places stands has first agrees =
    record { first = first; each = brings c other nodes marks places stands has agrees }

-- what rests on a marked node is decided by the places of the marked nodes
pub decides : (d : DesignView) (c : Case) (which : Column) (spot : Location) (nodes : List SupportNode) (marks : List Bool) (places : List CasePlace) (t : Traced)
    → Fits d c → ((o : Other) → Holds c nodes o → Fits d o.case → Follows o t (shown d o.case which spot))
    → IsTrue (slice_index_or marks 0 true) → IsTrue (slice_index_or marks t.node true) → StandsMarked nodes marks → HasPlaces nodes marks places → Decides d c which spot places
decides d c which spot nodes marks places t fits follows first here stands has other fits_other agrees =
    follows (marked marks other) (holds c other nodes marks places stands has first agrees) fits_other here
    ∙ sym (follows (marked marks c) (holds c c nodes marks places stands has first (agrees_with_itself c places)) fits here)
