-- A run of a case followed in each other case, and the places of marked nodes.
use Rattle.std.specs.Prelude.{◌≡◌, ℕ, Bool, IsTrue, List, true, Some, false, slice_get, slice_index_or}
use Rattle.bd_model.specs.DesignView.{DesignView}
use Rattle.bd_model.specs.Fits.{Fits, value_sort}
use Rattle.bd_model.specs.Value.{truth}
use Rattle.bd_model.specs.declared.case.Case.{Case}
use Rattle.bd_model.specs.declared.table.Scalar.{Scalar}
use Rattle.bd_model.specs.declared.table.Value.{Value}
use Rattle.bd_slice.specs.Columns.{column_state, shown}
use Rattle.bd_slice.specs.Places.{AgreesAt, AgreesOn}
use Rattle.bd_slice.specs.inner.Followed.{Other, Holds, Follows, FollowsKept, FollowsState}
use Rattle.bd_slice.specs.inner.Lines.{FollowsLine}
use Rattle.bd_slice.specs.declared.line.StatePath.{StatePath}
use Rattle.bd_slice.specs.declared.whole.Whole.{Whole}
use Rattle.bd_slice.specs.declared.graph.SupportNode.{SupportNode}
use Rattle.bd_slice.specs.declared.graph.SupportNode.TheVariants as node
use Rattle.bd_slice.specs.declared.kept.Kept.{Kept}
use Rattle.bd_slice.specs.declared.kept.Traced.{Traced}
use Rattle.bd_slice.specs.declared.place.Column.{Column}
use Rattle.bd_slice.specs.declared.place.Column.TheVariants as column
use Rattle.bd_slice.specs.declared.place.Want.{Want}
use Rattle.bd_slice.specs.declared.place.CasePlace.{CasePlace}

-- the state of a run is followed in each other case that fits
abbrev pub IsRun : DesignView → Case → Column → List SupportNode → List Kept → Type 0
IsRun d c which nodes state =
    (o : Other) → Holds c nodes o → Fits d c → Fits d o.case →
    FollowsState o state (column_state d o.case which)

-- the states of a row of the diagram are followed
abbrev pub FollowsBefore : DesignView → Other → StatePath → Type 0
FollowsBefore d o l = FollowsLine o l d.flush (λ n. column_state d o.case (column.Before n))

abbrev pub FollowsAfter : DesignView → Other → StatePath → Type 0
FollowsAfter d o l = FollowsLine o l d.flush (λ n. column_state d o.case (column.After n))

abbrev pub FollowsSteps : DesignView → Other → StatePath → Type 0
FollowsSteps d o l = FollowsLine o l d.steps (λ n. column_state d o.case (column.Steps n))

-- the states of all rows are followed
pub record FollowsWhole (d : DesignView) (o : Other) (w : Whole) : Type 0 where
  pub before : FollowsBefore d o w.before
  pub after : FollowsAfter d o w.after
  pub steps : FollowsSteps d o w.steps

-- a fact of each other case that fits and that these nodes hold of
abbrev pub InFitting : DesignView → Case → List SupportNode → (Other → Type 0) → Type 0
InFitting d c nodes P = (o : Other) → Holds c nodes o → Fits d c → Fits d o.case → P o

abbrev pub IsBefore : DesignView → Case → List SupportNode → StatePath → Type 0
IsBefore d c nodes l = InFitting d c nodes (λ o. FollowsBefore d o l)

abbrev pub IsAfter : DesignView → Case → List SupportNode → StatePath → Type 0
IsAfter d c nodes l = InFitting d c nodes (λ o. FollowsAfter d o l)

abbrev pub IsSteps : DesignView → Case → List SupportNode → StatePath → Type 0
IsSteps d c nodes l = InFitting d c nodes (λ o. FollowsSteps d o l)

abbrev pub IsWhole : DesignView → Case → List SupportNode → Whole → Type 0
IsWhole d c nodes w = InFitting d c nodes (λ o. FollowsWhole d o w)

-- a value is the same in each other case that fits, if the slice has this node
abbrev pub Pins : DesignView → Case → List SupportNode → Want → Traced → Type 0
Pins d c nodes want t =
    (o : Other) → Holds c nodes o → Fits d c → Fits d o.case →
    Follows o t (shown d o.case want.column want.spot)

-- a node pins a value
abbrev pub Pinned : DesignView → Case → List SupportNode → ℕ → Want → Type 0
Pinned d c nodes n want =
    (x : Scalar) × Pins d c nodes want (record { value = x; node = n })

-- an entry of the case's state is followed, where the other case has one of the same sort there
abbrev pub FollowsEntry : Case → Other → Value → ℕ → Kept → Type 0
FollowsEntry c o v i k =
    slice_index_or c.state i (truth false) ≡ v →
    value_sort (slice_index_or o.case.state i (truth false)) ≡ value_sort v →
    FollowsKept o k (slice_index_or o.case.state i (truth false))

-- those that a node stands on are marked, where it is
abbrev pub StandsAt : List Bool → ℕ → SupportNode → Type 0
StandsAt marks i n =
    (a b : ℕ) → n ≡ node.Both a b → IsTrue (slice_index_or marks i true) →
    IsTrue (slice_index_or marks a true) × IsTrue (slice_index_or marks b true)

-- with each marked node those that it stands on are marked
abbrev pub StandsMarked : List SupportNode → List Bool → Type 0
StandsMarked nodes marks =
    (i : ℕ) (n : SupportNode) → slice_get nodes i ≡ Some n → StandsAt marks i n

-- the other case agrees on the place of a node, where that is marked
abbrev pub HasPlaceAt : Case → Case → List Bool → ℕ → SupportNode → Type 0
HasPlaceAt c other marks i n =
    (p : CasePlace) → n ≡ node.Place p → IsTrue (slice_index_or marks i true) → AgreesAt c other p

-- another case that agrees on the places agrees on those of the marked nodes
abbrev pub HasPlaces : List SupportNode → List Bool → List CasePlace → Type 0
HasPlaces nodes marks places =
    (c other : Case) → AgreesOn c places other →
    (i : ℕ) (n : SupportNode) → slice_get nodes i ≡ Some n → HasPlaceAt c other marks i n
