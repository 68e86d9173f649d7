-- States one after another, and values that a node pins.
use Rattle.std.proofs.Common.{◌≡◌, ℕ, Bool, true, zero, suc, ◌<◌, ◌+◌, List, [], ◌∷◌, ◌++◌, length, take, get_or, IsTrue, Some, refl, subst, arith}
use Rattle.std.specs.Prelude.{slice_get, slice_index_or}
use Rattle.std.specs.List.{All}
use Rattle.std.proofs.lemmas.List.Elements.{All-more, All-weaker}
use Rattle.std.proofs.lemmas.List.{length_push}
use Rattle.std.proofs.lemmas.Option.{same_Some, slice_get_within}
use Rattle.bd_model.specs.DesignView.{DesignView}
use Rattle.bd_model.specs.Fits.{Fits}
use Rattle.bd_model.specs.declared.case.Case.{Case}
use Rattle.bd_model.specs.declared.table.Value.{Value}
use Rattle.bd_slice.specs.inner.Followed.{Other, Holds, Grows, FollowsState}
use Rattle.bd_slice.specs.inner.Lines.{FollowsEach}
use Rattle.bd_slice.specs.Columns.{Decides}
use Rattle.bd_slice.specs.inner.Runs.{Pins, Pinned, StandsMarked, HasPlaces}
use Rattle.bd_slice.specs.declared.graph.SupportNode.{SupportNode}
use Rattle.bd_slice.specs.declared.kept.Kept.{Kept}
use Rattle.bd_slice.specs.declared.kept.Traced.{Traced}
use Rattle.bd_slice.specs.declared.place.CasePlace.{CasePlace}
use Rattle.bd_slice.specs.declared.place.Want.{Want}
use Rattle.bd_slice.proofs.Marked.{decides}

-- one state more
pub each_push : (o : Other) (states : ℕ → List Value) (ss : List (List Kept)) (ks : List Kept) → FollowsEach o ss states → FollowsState o ks (states (length ss)) → FollowsEach o (ss ++ ks ∷ []) states
each_push o states [] ks h here = (here, tt)
each_push o states (s ∷ ss) ks h here = (h.0, each_push o (λ n. states (suc n)) ss ks h.1 here)

pub each_more : (o : Other) (states : ℕ → List Value) (done new : List (List Kept)) (i : ℕ) (ks : List Kept) → length done ≡ i → FollowsEach o done states → FollowsState o ks (states i) → new ≡ done ++ ks ∷ [] → FollowsEach o new states
each_more o states done new i ks count h here put = rw put (each_push o states done ks h (rw count here))

pub count_more : (done new : List (List Kept)) (i : ℕ) (ks : List Kept) → length done ≡ i → new ≡ done ++ ks ∷ [] → length new ≡ i + 1
count_more done new i ks count put = rw (put, length_push done ks, count) refl

-- the state at a place
pub each_at : (o : Other) (states : ℕ → List Value) (ss : List (List Kept)) (n : ℕ) (ks : List Kept) → FollowsEach o ss states → slice_get ss n ≡ Some ks → FollowsState o ks (states n)
each_at o states [] n ks h at = absurd (omega (arith, slice_get_within [] n ks at))
each_at o states (s ∷ ss) zero ks h at = subst (λ (x : List Kept). FollowsState o x (states 0)) (same_Some _ _ at) h.0
each_at o states (s ∷ ss) (suc n) ks h at = each_at o (λ k. states (suc k)) ss n ks h.1 at

-- one value more that a node pins, with those that an earlier one does
pub pinned_more : (d : DesignView) (c : Case) (old mid new : List SupportNode) (n m : ℕ) (t : Traced) (ws : List Want) (i : ℕ) (v : Want) → i < length ws → Grows old mid → Grows mid new
    → ((o : Other) → Holds c new o → IsTrue (o.has m) → IsTrue (o.has n)) → ((o : Other) → Holds c new o → IsTrue (o.has m) → IsTrue (o.has t.node))
    → All (Pinned d c old n) (take i ws) → Pins d c mid (get_or ws i v) t → All (Pinned d c new m) (take (i + 1) ws)
pinned_more d c old mid new n m t ws i v within first second front back before pins =
    let later : (w : Want) → Pinned d c old n w → Pinned d c new m w = λ w p. (p.0, λ o h fits other has. p.1 o (first c o (second c o h)) fits other (front o h has)) in
    let here : Pinned d c new m (get_or ws i v) = (t.value, λ o h fits other has. pins o (second c o h) fits other (back o h has)) in
    All-more (Pinned d c new m) ws i v within (All-weaker (Pinned d c old n) (Pinned d c new m) later (take i ws) before) here

-- the places of the marked nodes decide all that a marked node pins
pub decides_all : (d : DesignView) (c : Case) (nodes : List SupportNode) (marks : List Bool) (places : List CasePlace) (n : ℕ) (ws : List Want) → Fits d c → All (Pinned d c nodes n) ws
    → IsTrue (slice_index_or marks 0 true) → IsTrue (slice_index_or marks n true) → StandsMarked nodes marks → HasPlaces nodes marks places → All (λ w. Decides d c w.column w.spot places) ws
decides_all d c nodes marks places n ws fits pinned first here stands has =
    let each : (w : Want) → Pinned d c nodes n w → Decides d c w.column w.spot places =
    λ w p. decides d c w.column w.spot nodes marks places (record { value = p.0; node = n }) fits (λ o h other. p.1 o h fits other) first here stands has in
    All-weaker (Pinned d c nodes n) (λ w. Decides d c w.column w.spot places) each ws pinned
