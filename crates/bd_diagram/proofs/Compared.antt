-- Comparisons of each number of steps.
use Rattle.std.proofs.Common.{◌≡◌, ◌↔◌, ◌⊎◌, ⊎_elim, inl, inr, ℕ, zero, suc, ◌+◌, ◌<◌, ◌≤◌, List, [], ◌∷◌, ◌++◌, length, refl, sym, ap, subst, add-one, length-append, arith}
use Rattle.std.specs.Prelude.{Some, slice_get}
use Rattle.std.specs.List.{AllByRecursion}
use Rattle.std.proofs.lemmas.Option.{slice_get_within}
use Rattle.bd_model.specs.DesignView.{DesignView}
use Rattle.bd_model.specs.Cycle.{step, spec_steps}
use Rattle.bd_model.specs.Conditions.{IsAllowed, Commutes}
use Rattle.bd_model.specs.declared.table.Value.{Value}
use Rattle.bd_model.specs.declared.case.Case.{Case}
use Rattle.bd_diagram.specs.Diagrams.{IsComparisonOf, AreComparisonsOf, IsDiagram}
use Rattle.bd_diagram.specs.Laws.{CommutesWhereSame}
use Rattle.bd_diagram.specs.inner.Compared.{IsCompared}
use Rattle.bd_diagram.specs.declared.comparison.Comparison.{Comparison}

-- what is compared with the counts that are forced is compared with the design's
pub compared : (d : DesignView) (c : Case) (counts items : List ℕ) (j : ℕ) (first reached stands : List Value) (x : Comparison)
    → ((n : ℕ) → AllByRecursion (λ m. m ≡ n) counts ↔ IsAllowed d c.interp c.state c.inputs n) → items ≡ counts → reached ≡ spec_steps j d c.interp first
    → IsCompared items j reached stands x → IsComparisonOf d c first stands j x
compared d c counts items j first reached stands x allowed same_items is_reached h =
    let g = rw (same_items, is_reached) at h in
    record {
      visible = g.visible;
      allowed = (λ t. (allowed j).0 (g.allowed.0 t), λ a. g.allowed.1 ((allowed j).1 a));
      same = g.same;
      differences = g.differences;
    }

-- an item of a list with one more at its end
slice_get_push : {X : Type 0} (xs : List X) (y x : X) (j : ℕ) → slice_get (xs ++ y ∷ []) j ≡ Some x → (slice_get xs j ≡ Some x) ⊎ ((j ≡ length xs) × (y ≡ x))
slice_get_push [] y x zero h = inr (refl, cc h)
slice_get_push [] y x (suc j) h = absurd (cc h)
slice_get_push (z ∷ xs) y x zero h = inl h
slice_get_push (z ∷ xs) y x (suc j) h = ⊎_elim (λ e. inl e) (λ (e : (j ≡ length xs) × (y ≡ x)). inr (ap suc e.0, e.1)) (slice_get_push xs y x j h)

-- one comparison more
pub compared_more : (d : DesignView) (c : Case) (first stands : List Value) (xs new : List Comparison) (y : Comparison) (j : ℕ) → AreComparisonsOf d c first stands xs → length xs ≡ j
    → IsComparisonOf d c first stands j y → new ≡ xs ++ y ∷ [] → AreComparisonsOf d c first stands new
compared_more d c first stands xs new y j before count here put =
    let all : AreComparisonsOf d c first stands (xs ++ y ∷ []) = λ k x h.
    ⊎_elim (λ (e : slice_get xs k ≡ Some x). before k x e)
    (λ (e : (k ≡ length xs) × (y ≡ x)).
    let at_j : j ≡ k = cc in
    let at_k = subst (λ i. IsComparisonOf d c first stands i y) at_j here in
    subst (λ z. IsComparisonOf d c first stands k z) e.1 at_k)
    (slice_get_push xs y x k h) in
    subst (λ zs. AreComparisonsOf d c first stands zs) (sym put) all

-- there is an item at each place
pub item_at : {X : Type 0} (xs : List X) (j : ℕ) → j < length xs → (x : X) × (slice_get xs j ≡ Some x)
item_at [] j h = absurd (omega (arith, h))
item_at (x ∷ xs) zero h = (x, refl)
item_at (x ∷ xs) (suc j) h = item_at xs j (omega (arith, h))

pub commutes : CommutesWhereSame
commutes d c g is = (
  λ h.
      let x = h.1 in
      let here = is.comparisons h.0 x h.2 in
      let within = slice_get_within g.comparisons h.0 x h.2 in
      (h.0, omega (arith, within, is.counts), (here.allowed.0 h.3, here.same.0 h.4)),
  λ h.
      let at = item_at g.comparisons h.0 (omega (arith, h.1, is.counts)) in
      let here = is.comparisons h.0 at.0 at.1 in
      (h.0, at.0, at.1, here.allowed.1 h.2.0, here.same.1 h.2.1),
)

-- one step more
pub next_reached : (d : DesignView) (c : Case) (first reached next : List Value) (j : ℕ) → reached ≡ spec_steps j d c.interp first → next ≡ step d.spec c.interp reached []
    → next ≡ spec_steps (j + 1) d c.interp first
next_reached d c first reached next j is moved = rw (add-one, moved, is)

pub counted_more : (xs new : List Comparison) (y : Comparison) (j : ℕ) → length xs ≡ j → new ≡ xs ++ y ∷ [] → length new ≡ j + 1
counted_more xs new y j h put = omega (arith, ap length put, length-append xs (y ∷ []))
