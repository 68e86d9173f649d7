-- The terms of the visible entries denote what is visible.
use Rattle.std.proofs.Common.{◌≡◌, ℕ, zero, suc, ◌<◌, List, [], ◌∷◌, map, length, arith, Some, subst, sym}
use Rattle.std.specs.Prelude.{slice_get, slice_index_or}
use Rattle.std.specs.List.{AllZip}
use Rattle.std.proofs.lemmas.Option.{slice_get-get_or}
use Rattle.bd_model.proofs.Pairs.{AllZip-at}
use Rattle.bd_model.specs.Cycle.{look}
use Rattle.bd_model.specs.DesignView.{DesignView}
use Rattle.bd_model.specs.Lawful.{IsLawful, entry_sorts}
use Rattle.bd_model.specs.Value.{truth}
use Rattle.bd_model.specs.declared.design.Entry as entry
use Rattle.bd_model.specs.declared.table.Value.{Value}
use Rattle.bd_terms.specs.declared.node.Node.{Node}
use Rattle.bd_terms.specs.Graph.{HasSort as TermHasSort}
use Rattle.bd_terms.specs.Denotation.{World, denoted}
use Rattle.bd_symbolic.specs.World.{denotes_value}
use Rattle.bd_symbolic.specs.Symbolic.{DenoteValues, HaveSorts}
use Rattle.std.proofs.Common.{false, ◌++◌, ◌≤◌, ◌∙◌, drop, append-nil}
use Rattle.std.proofs.lemmas.List.{drop_all}

some_inside : {X : Type 0} (xs : List X) (i : ℕ) (x : X) → slice_get xs i ≡ Some x → i < length xs
some_inside [] i x h = absurd (cc h)
some_inside (y ∷ xs) zero x h = omega arith
some_inside (y ∷ xs) (suc i) x h = omega (arith, some_inside xs i x h)

denote_places : (w : World) (nodes : List Node) (ids : List ℕ) (values : List Value) (all : List entry.Entry) → length ids ≡ length all → DenoteValues w nodes ids values → (entries : List entry.Entry) (places : List ℕ)
    → AllZip (λ (x : entry.Entry) i. slice_get all i ≡ Some x) entries places
    → DenoteValues w nodes (map (λ i. slice_index_or ids i 0) places) (map (λ i. slice_index_or values i (truth false)) places)
denote_places w nodes ids values all same h [] [] k = tt
denote_places w nodes ids values all same h [] (i ∷ places) k = absurd k
denote_places w nodes ids values all same h (x ∷ entries) [] k = absurd k
denote_places w nodes ids values all same h (x ∷ entries) (i ∷ places) k =
    let within : i < length ids = omega (arith, some_inside all i x k.0) in
    let there : slice_get ids i ≡ Some (slice_index_or ids i 0) = slice_get-get_or ids i 0 within in
    (AllZip-at (λ id v. denoted w nodes id ≡ denotes_value v) ids values (truth false) h i _ there, denote_places w nodes ids values all same h entries places k.1)

pub look_denoted : (d : DesignView) (ids visible : List ℕ) → IsLawful d → length ids ≡ length d.pipe.entries → visible ≡ map (λ i. slice_index_or ids i 0) d.visible
    → (w : World) (nodes : List Node) (values : List Value) → DenoteValues w nodes ids values → DenoteValues w nodes visible (look d values)
look_denoted d ids visible lawful same is w nodes values h =
    subst (λ l. DenoteValues w nodes l (look d values)) (sym is) (denote_places w nodes ids values d.pipe.entries same h d.spec.entries d.visible lawful.visible)

sort_in_place : (nodes : List Node) (ids : List ℕ) (all : List entry.Entry) → HaveSorts nodes ids (map (λ (x : entry.Entry). x.sort) all) → (i : ℕ) (x : entry.Entry) → slice_get all i ≡ Some x → TermHasSort nodes (slice_index_or ids i 0) x.sort
sort_in_place nodes ids [] h i x k = absurd (cc k)
sort_in_place nodes [] (y ∷ all) h i x k = absurd h
sort_in_place nodes (id ∷ ids) (y ∷ all) h zero x k = let same : y ≡ x = cc in subst (λ (z : entry.Entry). TermHasSort nodes id z.sort) same h.0
sort_in_place nodes (id ∷ ids) (y ∷ all) h (suc i) x k = sort_in_place nodes ids all h.1 i x k

sorts_in_places : (nodes : List Node) (ids : List ℕ) (all : List entry.Entry) → HaveSorts nodes ids (map (λ (x : entry.Entry). x.sort) all) → (entries : List entry.Entry) (places : List ℕ)
    → AllZip (λ (x : entry.Entry) i. slice_get all i ≡ Some x) entries places → HaveSorts nodes (map (λ i. slice_index_or ids i 0) places) (map (λ (x : entry.Entry). x.sort) entries)
sorts_in_places nodes ids all h [] [] k = tt
sorts_in_places nodes ids all h [] (i ∷ places) k = absurd k
sorts_in_places nodes ids all h (x ∷ entries) [] k = absurd k
sorts_in_places nodes ids all h (x ∷ entries) (i ∷ places) k = (sort_in_place nodes ids all h i x k.0, sorts_in_places nodes ids all h entries places k.1)

-- the visible terms have the sorts that the specification declares
pub look_sorted : (d : DesignView) (ids visible : List ℕ) → IsLawful d → visible ≡ map (λ i. slice_index_or ids i 0) d.visible → (nodes : List Node) → HaveSorts nodes ids (entry_sorts d.pipe) → HaveSorts nodes visible (entry_sorts d.spec)
look_sorted d ids visible lawful is nodes h = subst (λ l. HaveSorts nodes l (entry_sorts d.spec)) (sym is) (sorts_in_places nodes ids d.pipe.entries h d.spec.entries d.visible lawful.visible)

-- after the last item nothing is left
pub none_left : {X Y : Type 0} (f : X → Y) (front : List Y) (items : List X) (i : ℕ) (whole : List Y) → length items ≤ i → front ++ map f (drop i items) ≡ whole → front ≡ whole
none_left f front items i whole past h = sym (append-nil front) ∙ subst (λ l. front ++ map f l ≡ whole) (drop_all i items past) h
