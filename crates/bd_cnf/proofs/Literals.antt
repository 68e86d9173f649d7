-- Literals in lists, and the values of clauses.
use Rattle.std.proofs.Common.{◌≡◌, ℕ, Bool, true, false, not, ◌||◌, cond, List, [], ◌∷◌, ◌++◌, refl, sym, ap, ◌∙◌, subst, inl, inr, eqb, ◌<◌, ◌≤◌, length, get_or}
use Rattle.std.proofs.lemmas.Bool.{false≢true, true≢false, eqb-true, eq-eqb, and_parts, and_from, or_cases, or_left, or_right, cases_Bool}
use Rattle.std.specs.List.{filter, list_any}
use Rattle.std.proofs.lemmas.List.Folds.{list_any-append, list_any_at}
use Rattle.std.proofs.Math.Bool.{or-false}
use mathlib.Core.Bool.{not-not}
use Rattle.bd_cnf.specs.Literal.{Literal, negate, literal_eq, has_literal, literal_value}
use Rattle.std.proofs.lemmas.List.Elements.{All-head, All-tail}
use Rattle.bd_cnf.specs.Clause.{SameLiterals, IsTautology, IsWithin, clause_value}

same_sign : (p q : Bool) → cond p q (not q) ≡ true → p ≡ q
same_sign true true h = refl
same_sign true false h = absurd (false≢true h)
same_sign false true h = absurd (false≢true h)
same_sign false false h = refl

sign-refl : (p : Bool) → cond p p (not p) ≡ true
sign-refl true = refl
sign-refl false = refl

pub literal_eq-refl : (l : Literal) → literal_eq l l ≡ true
literal_eq-refl l = and_from _ _ (eq-eqb l.var l.var refl) (sign-refl l.positive)

pub literal_eq-true : (a b : Literal) → literal_eq a b ≡ true → a ≡ b
literal_eq-true a b h =
    let parts = and_parts (eqb a.var b.var) _ h in
    let vars : a.var ≡ b.var = eqb-true a.var b.var parts.0 in
    let signs : a.positive ≡ b.positive = same_sign a.positive b.positive parts.1 in
    λ i. record { var = vars i; positive = signs i }

not_own : (p : Bool) → p ≡ not p → ⊥
not_own true h = true≢false h
not_own false h = false≢true h

-- no literal is its own negation
pub negate_apart : (l : Literal) → l ≡ negate l → ⊥
negate_apart l h = not_own l.positive (ap (λ (m : Literal). m.positive) h)

-- a literal is the negation of its negation
pub negate_twice : (l : Literal) → negate (negate l) ≡ l
negate_twice l = λ i. record { var = l.var; positive = not-not l.positive i }

-- a literal of the same variable with another sign is the negation
pub negate_from_apart : (a b : Literal) → a.var ≡ b.var → (a.positive ≡ b.positive → ⊥) → a ≡ negate b
negate_from_apart a b vars apart =
    let signs : a.positive ≡ not b.positive = other a.positive b.positive apart in
    λ i. record { var = vars i; positive = signs i }
  where
    other : (p q : Bool) → (p ≡ q → ⊥) → p ≡ not q
    other true true h = absurd (h refl)
    other true false h = refl
    other false true h = refl
    other false false h = absurd (h refl)

pub same_literal : (a b : Literal) → a.var ≡ b.var → a.positive ≡ b.positive → a ≡ b
same_literal a b vars signs = λ i. record { var = vars i; positive = signs i }

pub has-append : (xs ys : List Literal) (l : Literal) → has_literal (xs ++ ys) l ≡ (has_literal xs l || has_literal ys l)
has-append xs ys l = list_any-append (literal_eq l) xs ys

pub has-push : (ls : List Literal) (m l : Literal) → has_literal (ls ++ m ∷ []) l ≡ (has_literal ls l || literal_eq l m)
has-push ls m l = has-append ls (m ∷ []) l ∙ ap (λ b. has_literal ls l || b) (or-false (literal_eq l m))

-- a literal that is there already adds nothing
pub has_again : (ls : List Literal) (m l : Literal) → has_literal ls m ≡ true → (has_literal ls l || literal_eq l m) ≡ has_literal ls l
has_again ls m l there =
    elim (cases_Bool (literal_eq l m)) [
      | inl e ↦ let yes : has_literal ls l ≡ true = subst (λ (k : Literal). has_literal ls k ≡ true) (sym (literal_eq-true l m e)) there in or_left _ _ yes ∙ sym yes
      | inr e ↦ ap (λ b. has_literal ls l || b) e ∙ or-false (has_literal ls l)
    ]

not_cond : (p b : Bool) → cond (not p) b (not b) ≡ not (cond p b (not b))
not_cond true b = refl
not_cond false b = sym (not-not b)

pub negate-value : (v : ℕ → Bool) (l : Literal) → literal_value v (negate l) ≡ not (literal_value v l)
negate-value v l = not_cond l.positive (v l.var)

-- a true literal makes its clause true
pub value_from_has : (v : ℕ → Bool) (ls : List Literal) (l : Literal) → has_literal ls l ≡ true → literal_value v l ≡ true → clause_value v ls ≡ true
value_from_has v [] l there holds = there
value_from_has v (m ∷ ms) l there holds =
    elim (or_cases _ _ there) [
      | inl e ↦ or_left _ _ (subst (λ (k : Literal). literal_value v k ≡ true) (literal_eq-true l m e) holds)
      | inr e ↦ or_right (literal_value v m) _ (value_from_has v ms l e holds)
    ]

-- a true clause has a true literal
pub has_from_value : (v : ℕ → Bool) (ls : List Literal) → clause_value v ls ≡ true → (l : Literal) × (has_literal ls l ≡ true) × (literal_value v l ≡ true)
has_from_value v [] h = absurd (false≢true h)
has_from_value v (m ∷ ms) h =
    elim (or_cases _ _ h) [
      | inl e ↦ (m, or_left _ _ (literal_eq-refl m), e)
      | inr e ↦ let rest = has_from_value v ms e in (rest.0, or_right (literal_eq rest.0 m) _ rest.1, rest.2)
    ]

same_from_ways : (a b : Bool) → (a ≡ true → b ≡ true) → (b ≡ true → a ≡ true) → a ≡ b
same_from_ways true b f g = sym (f refl)
same_from_ways false true f g = g refl
same_from_ways false false f g = refl

carried : (v : ℕ → Bool) (c d : List Literal) → SameLiterals c d → clause_value v c ≡ true → clause_value v d ≡ true
carried v c d same h = let found = has_from_value v c h in value_from_has v d found.0 (sym (same found.0) ∙ found.1) found.2

-- clauses of the same literals have the same value
pub same_value : (v : ℕ → Bool) (c d : List Literal) → SameLiterals c d → clause_value v c ≡ clause_value v d
same_value v c d same = same_from_ways _ _ (carried v c d same) (carried v d c (λ l. sym (same l)))

-- a tautology is always true
pub tautology_value : (v : ℕ → Bool) (ls : List Literal) → IsTautology ls → clause_value v ls ≡ true
tautology_value v ls (l, here, there) =
    elim (cases_Bool (literal_value v l)) [
      | inl e ↦ value_from_has v ls l here e
      | inr e ↦ value_from_has v ls (negate l) there (negate-value v l ∙ ap not e)
    ]

-- a literal that stands in the list is one of it
pub has_at : (k : ℕ) (ls : List Literal) (d l : Literal) → k < length ls → l ≡ get_or ls k d → has_literal ls l ≡ true
has_at k ls d l h e = list_any_at (literal_eq l) ls k d h (subst (λ (m : Literal). literal_eq l m ≡ true) e (literal_eq-refl l))

-- a literal of a clause within vars is within it
pub has_within : (vars : ℕ) (ls : List Literal) (l : Literal) → IsWithin vars ls → has_literal ls l ≡ true → l.var ≤ vars
has_within vars [] l low h = absurd (false≢true h)
has_within vars (m ∷ ms) l low h =
    let P : Literal → Type 0 = λ k. k.var ≤ vars in
    elim (or_cases _ _ h) [
      | inl e ↦ subst P (sym (literal_eq-true l m e)) (All-head P m ms low)
      | inr e ↦ has_within vars ms l (All-tail P m ms low) e
    ]

-- clauses of the same literals are within the same variables
pub within_of_same : (vars : ℕ) (c d : List Literal) → SameLiterals c d → IsWithin vars d → IsWithin vars c
within_of_same vars c d same low k e h = has_within vars d (get_or c k e) low (sym (same (get_or c k e)) ∙ has_at k c e (get_or c k e) h refl)

-- a literal that passes a test stays in what the test keeps
pub has-filter : (p : Literal → Bool) (ls : List Literal) (l : Literal) → has_literal ls l ≡ true → p l ≡ true → has_literal (filter p ls) l ≡ true
has-filter p [] l here passes = here
has-filter p (m ∷ ms) l here passes =
    elim (or_cases (literal_eq l m) _ here) [
      | inl e ↦
          let kept : p m ≡ true = subst (λ (k : Literal). p k ≡ true) (literal_eq-true l m e) passes in
          subst (λ b. has_literal (cond b (m ∷ filter p ms) (filter p ms)) l ≡ true) (sym kept) (or_left _ _ e)
      | inr e ↦ first (p m) (has-filter p ms l e passes)
    ]
  where
    first : (b : Bool) → has_literal (filter p ms) l ≡ true → has_literal (cond b (m ∷ filter p ms) (filter p ms)) l ≡ true
    first true h = or_right (literal_eq l m) _ h
    first false h = h

-- where some literal passes a test, one of the list does
pub any_has : (p : Literal → Bool) (ls : List Literal) → list_any p ls ≡ true → (l : Literal) × (has_literal ls l ≡ true) × (p l ≡ true)
any_has p [] h = absurd (false≢true h)
any_has p (m ∷ ms) h =
    elim (or_cases (p m) _ h) [
      | inl e ↦ (m, or_left _ _ (literal_eq-refl m), e)
      | inr e ↦ let rest = any_has p ms e in (rest.0, or_right (literal_eq rest.0 m) _ rest.1, rest.2)
    ]

-- a literal of the list that passes a test makes it pass
pub any_from_has : (p : Literal → Bool) (ls : List Literal) (l : Literal) → has_literal ls l ≡ true → p l ≡ true → list_any p ls ≡ true
any_from_has p [] l here passes = here
any_from_has p (m ∷ ms) l here passes =
    elim (or_cases (literal_eq l m) _ here) [
      | inl e ↦ or_left _ _ (subst (λ (k : Literal). p k ≡ true) (literal_eq-true l m e) passes)
      | inr e ↦ or_right (p m) _ (any_from_has p ms l e passes)
    ]

-- what a test keeps are literals of the list that pass it
pub filter_has : (p : Literal → Bool) (ls : List Literal) (l : Literal) → has_literal (filter p ls) l ≡ true → (has_literal ls l ≡ true) × (p l ≡ true)
filter_has p [] l h = absurd (false≢true h)
filter_has p (m ∷ ms) l h = first (p m) (filter_has p ms l) refl h
  where
    first : (b : Bool) → (has_literal (filter p ms) l ≡ true → (has_literal ms l ≡ true) × (p l ≡ true)) → p m ≡ b → has_literal (cond b (m ∷ filter p ms) (filter p ms)) l ≡ true → (has_literal (m ∷ ms) l ≡ true) × (p l ≡ true)
    first true more e k =
        elim (or_cases (literal_eq l m) _ k) [
          | inl s ↦ (or_left _ _ s, subst (λ (x : Literal). p x ≡ true) (sym (literal_eq-true l m s)) e)
          | inr r ↦ let rest = more r in (or_right (literal_eq l m) _ rest.0, rest.1)
        ]
    first false more e k = let rest = more k in (or_right (literal_eq l m) _ rest.0, rest.1)
