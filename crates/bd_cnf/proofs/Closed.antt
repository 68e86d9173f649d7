-- A trail that is closed under unit propagation, and what its parts leave of each clause that stands.
use Rattle.std.proofs.Common.{◌≡◌, ℕ, ◌<◌, ◌≤◌, Bool, true, false, not, ◌||◌, cond, eqb, List, [], ◌∷◌, ◌++◌, length, refl, sym, ap, ◌∙◌, subst, inl, inr, arith}
use Rattle.std.specs.List.{filter}
use Rattle.std.proofs.lemmas.Bool.{false≢true, true≢false, cases_Bool, or_cases, eq-eqb}
use Rattle.bd_cnf.specs.Literal.{Literal, negate, literal_eq, has_literal, has_variable}
use Rattle.bd_cnf.specs.Clause.{RisesAbove, IsRising}
use Rattle.bd_cnf.specs.Trail.{is_false, open_literals, IsConsistent, IsPartOf, IsClosed}
use Rattle.bd_cnf.proofs.Literals.{literal_eq-true, literal_eq-refl, negate_apart, negate_twice, has-filter, has-push, any_has, any_from_has, filter_has}

-- what a clause's open literals come to within a trail: none is no case, one is on the trail
abbrev pub IsOpenWithin : List Literal → List Literal → Type 0
IsOpenWithin whole [] = ⊥
IsOpenWithin whole (l ∷ []) = has_literal whole l ≡ true
IsOpenWithin whole (l ∷ m ∷ ls) = Unit {0}

from_true : (whole ls : List Literal) (l : Literal) → has_literal ls l ≡ true → has_literal whole l ≡ true → IsOpenWithin whole ls
from_true whole [] l here on = absurd (false≢true here)
from_true whole (m ∷ []) l here on =
    elim (or_cases (literal_eq l m) _ here) [
      | inl e ↦ subst (λ (k : Literal). has_literal whole k ≡ true) (literal_eq-true l m e) on
      | inr e ↦ absurd (false≢true e)
    ]
from_true whole (m ∷ k ∷ ls) l here on = tt

from_two : (whole ls : List Literal) → 2 ≤ length ls → IsOpenWithin whole ls
from_two whole [] h = absurd (omega arith)
from_two whole (l ∷ []) h = absurd (omega arith)
from_two whole (l ∷ m ∷ ls) h = tt

-- a literal that the whole trail doesn't make false isn't false on a part
pub part_not_false : (part whole : List Literal) (l : Literal) → IsPartOf part whole → is_false whole l ≡ false → is_false part l ≡ false
part_not_false part whole l inside not_false =
    elim (cases_Bool (is_false part l)) [ inl e ↦ absurd (true≢false (sym (inside (negate l) e) ∙ not_false)) | inr e ↦ e ]

-- a part leaves no fewer literals open
pub open_of_part : (part whole clause : List Literal) → IsPartOf part whole → length (open_literals whole clause) ≤ length (open_literals part clause)
open_of_part part whole [] inside = omega arith
open_of_part part whole (m ∷ ms) inside = first (open_of_part part whole ms inside) (is_false whole m) (is_false part m) (part_not_false part whole m inside)
  where
    first : length (open_literals whole ms) ≤ length (open_literals part ms) → (a b : Bool) → (a ≡ false → b ≡ false) → length (cond (not a) (m ∷ open_literals whole ms) (open_literals whole ms)) ≤ length (cond (not b) (m ∷ open_literals part ms) (open_literals part ms))
    first rest true true f = rest
    first rest true false f = omega (arith, rest)
    first rest false true f = absurd (true≢false (f refl))
    first rest false false f = omega (arith, rest)

-- a literal of a consistent trail is open on each part of it
pub true_is_open : (part whole clause : List Literal) (l : Literal) → IsConsistent whole → IsPartOf part whole → has_literal clause l ≡ true → has_literal whole l ≡ true → has_literal (open_literals part clause) l ≡ true
true_is_open part whole clause l consistent inside here on =
    has-filter (λ m. not (is_false part m)) clause l here (ap not (part_not_false part whole l inside (consistent l on)))

-- a closed clause is no conflict on a part, and where it is unit there its literal stands on the whole trail
pub closed_open : (part whole clause : List Literal) → IsConsistent whole → IsPartOf part whole → IsClosed whole clause → IsOpenWithin whole (open_literals part clause)
closed_open part whole clause consistent inside (inl holds) =
    let found = any_has (has_literal whole) clause holds in
    from_true whole (open_literals part clause) found.0 (true_is_open part whole clause found.0 consistent inside found.1 found.2) found.2
closed_open part whole clause consistent inside (inr two) =
    let more : length (open_literals whole clause) ≤ length (open_literals part clause) = open_of_part part whole clause inside in
    from_two whole (open_literals part clause) (omega arith)

-- a part and one literal of the whole are a part
pub part_push : (part whole : List Literal) (l : Literal) → IsPartOf part whole → has_literal whole l ≡ true → IsPartOf (part ++ l ∷ []) whole
part_push part whole l inside on m h =
    elim (or_cases (has_literal part m) _ (sym (has-push part l m) ∙ h)) [
      | inl e ↦ inside m e
      | inr e ↦ subst (λ (k : Literal). has_literal whole k ≡ true) (sym (literal_eq-true m l e)) on
    ]

-- a variable that the whole trail doesn't have is on no part
pub part_variable : (part whole : List Literal) (var : ℕ) → IsPartOf part whole → has_variable whole var ≡ false → has_variable part var ≡ false
part_variable part whole var inside none =
    elim (cases_Bool (has_variable part var)) [
      | inl e ↦
          let found = any_has (λ l. eqb l.var var) part e in
          absurd (true≢false (sym (any_from_has (λ l. eqb l.var var) whole found.0 (inside found.0 found.1) found.2) ∙ none))
      | inr e ↦ e
    ]

-- a literal on the trail has its variable there
pub has_variable_of : (trail : List Literal) (l : Literal) → has_literal trail l ≡ true → has_variable trail l.var ≡ true
has_variable_of trail l h = any_from_has (λ m. eqb m.var l.var) trail l h (eq-eqb l.var l.var refl)

-- a rising list whose literals are all one has one at most
single : (n : ℕ) (ls : List Literal) (u : Literal) → RisesAbove n ls → ((l : Literal) → has_literal ls l ≡ true → l ≡ u) → length ls ≤ 1
single n [] u up all = omega arith
single n (l ∷ []) u up all = omega arith
single n (l ∷ m ∷ ls) u up all =
    let first : l ≡ u = all l (or_true (literal_eq l l) _ (literal_eq-refl l)) in
    let second : m ≡ u = all m (or_more (literal_eq m l) _ (or_true (literal_eq m m) _ (literal_eq-refl m))) in
    let same : l.var ≡ m.var = ap (λ (k : Literal). k.var) (first ∙ sym second) in
    let rise : l.var < m.var = up.1.0 in
    absurd (omega arith)
  where
    or_true : (a b : Bool) → a ≡ true → (a || b) ≡ true
    or_true a b h = ap (λ x. x || b) h

    or_more : (a b : Bool) → b ≡ true → (a || b) ≡ true
    or_more true b h = refl
    or_more false b h = h

pub rises_filter : (p : Literal → Bool) (n : ℕ) (ls : List Literal) → RisesAbove n ls → RisesAbove n (filter p ls)
rises_filter p n [] up = tt
rises_filter p n (l ∷ ls) up = first (rises_filter p l.var ls up.1) (p l)
  where
    lower : (n k : ℕ) (ms : List Literal) → n < k → RisesAbove k ms → RisesAbove n ms
    lower n k [] h up = tt
    lower n k (m ∷ ms) h up = let rise : k < m.var = up.0 in (omega arith, up.1)

    first : RisesAbove l.var (filter p ls) → (b : Bool) → RisesAbove n (cond b (l ∷ filter p ls) (filter p ls))
    first rest true = (up.0, rest)
    first rest false = lower n l.var (filter p ls) up.0 rest

-- a closed clause isn't made of false literals and one whose variable the trail doesn't have
pub closed_not_false : (trail clause : List Literal) (u : Literal) → IsConsistent trail → IsRising clause → IsClosed trail clause → has_variable trail u.var ≡ false → ((l : Literal) → has_literal clause l ≡ true → (l ≡ u → ⊥) → is_false trail l ≡ true) → ⊥
closed_not_false trail clause u consistent rising (inl holds) free all =
    let found = any_has (has_literal trail) clause holds in
    let apart : found.0 ≡ u → ⊥ = λ e. true≢false (sym (subst (λ (k : Literal). has_variable trail k.var ≡ true) e (has_variable_of trail found.0 found.2)) ∙ free) in
    true≢false (sym (all found.0 found.1 apart) ∙ consistent found.0 found.2)
closed_not_false trail clause u consistent rising (inr two) free all =
    let kept : RisesAbove 0 (open_literals trail clause) = rises_filter (λ l. not (is_false trail l)) 0 clause rising in
    let one : length (open_literals trail clause) ≤ 1 = single 0 (open_literals trail clause) u kept (λ l h. same l (filter_has (λ m. not (is_false trail m)) clause l h)) in
    omega arith
  where
    same : (l : Literal) → (has_literal clause l ≡ true) × (not (is_false trail l) ≡ true) → l ≡ u
    same l h =
        elim (cases_Bool (literal_eq l u)) [
          | inl e ↦ literal_eq-true l u e
          | inr e ↦
              let apart : l ≡ u → ⊥ = λ s. true≢false (sym (subst (λ (k : Literal). literal_eq l k ≡ true) s (literal_eq-refl l)) ∙ e) in
              absurd (false≢true (sym (ap not (all l h.0 apart)) ∙ h.1))
        ]

-- a trail is consistent where no literal stands there with its negation
pub consistent_from : (trail : List Literal) → ((l : Literal) → has_literal trail l ≡ true → has_literal trail (negate l) ≡ true → ⊥) → IsConsistent trail
consistent_from trail apart l here = elim (cases_Bool (is_false trail l)) [ inl e ↦ absurd (apart l here e) | inr e ↦ e ]

-- a literal that isn't false keeps a trail consistent
pub consistent_push : (trail : List Literal) (l : Literal) → IsConsistent trail → is_false trail l ≡ false → IsConsistent (trail ++ l ∷ [])
consistent_push trail l consistent not_false = consistent_from (trail ++ l ∷ []) apart
  where
    apart : (m : Literal) → has_literal (trail ++ l ∷ []) m ≡ true → has_literal (trail ++ l ∷ []) (negate m) ≡ true → ⊥
    apart m here there =
        elim (or_cases (has_literal trail m) _ (sym (has-push trail l m) ∙ here)) [
          | inl e ↦ elim (or_cases (has_literal trail (negate m)) _ (sym (has-push trail l (negate m)) ∙ there)) [
            | inl f ↦ true≢false (sym f ∙ consistent m e)
            | inr f ↦
                let same : m ≡ negate l = sym (negate_twice m) ∙ ap negate (literal_eq-true (negate m) l f) in
                true≢false (sym (subst (λ (k : Literal). has_literal trail k ≡ true) same e) ∙ not_false)
          ]
          | inr e ↦ elim (or_cases (has_literal trail (negate m)) _ (sym (has-push trail l (negate m)) ∙ there)) [
            | inl f ↦ true≢false (sym (subst (λ (k : Literal). has_literal trail (negate k) ≡ true) (literal_eq-true m l e) f) ∙ not_false)
            | inr f ↦ negate_apart m (literal_eq-true m l e ∙ sym (literal_eq-true (negate m) l f))
          ]
        ]
