-- Lists of literals as sets: parts, variables, consistency, and what a filter keeps.
use Rattle.std.proofs.Common.{◌≡◌, ℕ, ◌<◌, ◌≤◌, Bool, true, false, not, cond, List, [], ◌∷◌, ◌++◌, length, map, refl, sym, ap, ◌∙◌, subst, inl, inr, arith, eqb, get_or}
use Rattle.std.specs.List.{All, filter}
use Rattle.std.proofs.lemmas.Bool.{false≢true, cases_Bool, or_cases, or_left, or_right, eqb-true, not-true, not_from_false, false_from_ne_true, cond-true, cond-false}
use Rattle.std.proofs.lemmas.List.Elements.{All-head, All-tail}
use Rattle.bd_cnf.specs.Literal.{Literal, negate, literal_eq, has_literal, has_variable}
use Rattle.bd_cnf.specs.Clause.{RisesAbove}
use Rattle.bd_cnf.specs.Trail.{is_false, open_literals, IsConsistent, IsPartOf}
use Rattle.bd_cnf.proofs.Literals.{literal_eq-true, literal_eq-refl, negate_apart, negate_from_apart, same_literal, has-append, has-filter, filter_has, any_has, has_at, negate_twice}
use Rattle.bd_cnf.proofs.Closed.{has_variable_of}

pub part_nil : (ys : List Literal) → IsPartOf [] ys
part_nil ys l h = absurd (false≢true h)

pub has_here : (l : Literal) (ls : List Literal) → has_literal (l ∷ ls) l ≡ true
has_here l ls = or_left _ _ (literal_eq-refl l)

pub has_later : (l m : Literal) (ls : List Literal) → has_literal ls l ≡ true → has_literal (m ∷ ls) l ≡ true
has_later l m ls h = or_right (literal_eq l m) _ h

pub has_single : (l m : Literal) → has_literal (m ∷ []) l ≡ true → l ≡ m
has_single l m h = elim (or_cases (literal_eq l m) false h) [ inl e ↦ literal_eq-true l m e | inr e ↦ absurd (false≢true e) ]

pub has_left : (xs ys : List Literal) (l : Literal) → has_literal xs l ≡ true → has_literal (xs ++ ys) l ≡ true
has_left xs ys l h = has-append xs ys l ∙ or_left _ _ h

pub has_right : (xs ys : List Literal) (l : Literal) → has_literal ys l ≡ true → has_literal (xs ++ ys) l ≡ true
has_right xs ys l h = has-append xs ys l ∙ or_right (has_literal xs l) _ h

pub has_pushed : (xs : List Literal) (l : Literal) → has_literal (xs ++ l ∷ []) l ≡ true
has_pushed xs l = has_right xs (l ∷ []) l (has_here l [])

-- a literal is in two lists together where it is in one of them
pub has_either : {C : Type 0} → (xs ys : List Literal) (l : Literal) → has_literal (xs ++ ys) l ≡ true → (has_literal xs l ≡ true → C) → (has_literal ys l ≡ true → C) → C
has_either xs ys l h f g = elim (or_cases _ _ (sym (has-append xs ys l) ∙ h)) [ inl e ↦ f e | inr e ↦ g e ]

-- some literal of the list has a variable of it
pub literal_of : (ls : List Literal) (var : ℕ) → has_variable ls var ≡ true → (l : Literal) × (has_literal ls l ≡ true) × (l.var ≡ var)
literal_of ls var h = let found = any_has (λ l. eqb l.var var) ls h in (found.0, found.1, eqb-true found.0.var var found.2)

-- a literal without a value is neither true nor false
pub not_true : (ls : List Literal) (l : Literal) → has_variable ls l.var ≡ false → has_literal ls l ≡ false
not_true ls l none = false_from_ne_true _ (λ h. false≢true (sym none ∙ has_variable_of ls l h))

pub not_false : (ls : List Literal) (l : Literal) → has_variable ls l.var ≡ false → is_false ls l ≡ false
not_false ls l none = not_true ls (negate l) none

-- and conversely
pub unassigned_from : (ls : List Literal) (l : Literal) → has_literal ls l ≡ false → is_false ls l ≡ false → has_variable ls l.var ≡ false
unassigned_from ls l not_here not_there = false_from_ne_true _ (λ h.
    let found = literal_of ls l.var h in
    elim (cases_Bool (literal_eq found.0 l)) [
      | inl e ↦ false≢true (sym not_here ∙ subst (λ (k : Literal). has_literal ls k ≡ true) (literal_eq-true found.0 l e) found.1)
      | inr e ↦ false≢true (sym not_there ∙ subst (λ (k : Literal). has_literal ls k ≡ true) (negate_from_apart found.0 l found.2 (λ signs. false≢true (sym e ∙ subst (λ (k : Literal). literal_eq found.0 k ≡ true) (same_literal found.0 l found.2 signs) (literal_eq-refl found.0)))) found.1)
    ])

-- no literal with its negation
pub consistent_nil : IsConsistent []
consistent_nil l h = absurd (false≢true h)

pub consistent_push : (ls : List Literal) (l : Literal) → IsConsistent ls → has_variable ls l.var ≡ false → IsConsistent (ls ++ l ∷ [])
consistent_push ls l so none m h =
    false_from_ne_true _ (λ bad. has_either ls (l ∷ []) (negate m) bad
    (λ old. has_either ls (l ∷ []) m h
    (λ both. false≢true (sym (so m both) ∙ old))
    (λ new. false≢true (sym none ∙ subst (λ v. has_variable ls v ≡ true) (ap (λ (k : Literal). k.var) (has_single m l new)) (has_variable_of ls (negate m) old))))
    (λ now. has_either ls (l ∷ []) m h
    (λ old. false≢true (sym none ∙ subst (λ v. has_variable ls v ≡ true) (ap (λ (k : Literal). k.var) (has_single (negate m) l now)) (has_variable_of ls m old)))
    (λ new. negate_apart m (has_single m l new ∙ sym (has_single (negate m) l now)))))

-- a literal of a clause that isn't false is open, and the other way round
pub open_from : (trail clause : List Literal) (l : Literal) → has_literal clause l ≡ true → is_false trail l ≡ false → has_literal (open_literals trail clause) l ≡ true
open_from trail clause l here free = has-filter (λ m. not (is_false trail m)) clause l here (not_from_false _ free)

pub open_has : (trail clause : List Literal) (l : Literal) → has_literal (open_literals trail clause) l ≡ true → (has_literal clause l ≡ true) × (is_false trail l ≡ false)
open_has trail clause l h = let both = filter_has (λ m. not (is_false trail m)) clause l h in (both.0, not-true _ both.1)

-- a filter within a weaker one
pub filter_within : {X : Type 0} → (p q : X → Bool) → ((x : X) → p x ≡ true → q x ≡ true) → (xs : List X) → filter p xs ≡ filter p (filter q xs)
filter_within p q weaker [] = refl
filter_within p q weaker (x ∷ xs) = first (filter_within p q weaker xs) (p x) (q x) refl refl
  where
    first : filter p xs ≡ filter p (filter q xs) → (b c : Bool) → p x ≡ b → q x ≡ c → cond b (x ∷ filter p xs) (filter p xs) ≡ filter p (cond c (x ∷ filter q xs) (filter q xs))
    first rest true true e f = ap (λ ys. x ∷ ys) rest ∙ sym (cond-true (p x) (x ∷ filter p (filter q xs)) (filter p (filter q xs)) e)
    first rest true false e f = absurd (false≢true (sym f ∙ weaker x e))
    first rest false true e f = rest ∙ sym (cond-false (p x) (x ∷ filter p (filter q xs)) (filter p (filter q xs)) e)
    first rest false false e f = rest

-- a longer trail leaves fewer literals open
pub open_shrinks : (before after clause : List Literal) → IsPartOf before after → open_literals after clause ≡ open_literals after (open_literals before clause)
open_shrinks before after clause part = filter_within (λ m. not (is_false after m)) (λ m. not (is_false before m)) (λ m h. not_from_false _ (false_from_ne_true _ (λ e. false≢true (sym (not-true _ h) ∙ part (negate m) e)))) clause

-- two literals that differ make a list of two or more
pub two_of : (ls : List Literal) (a b : Literal) → has_literal ls a ≡ true → has_literal ls b ≡ true → (a ≡ b → ⊥) → 2 ≤ length ls
two_of [] a b here there apart = absurd (false≢true here)
two_of (l ∷ []) a b here there apart = absurd (apart (has_single a l here ∙ sym (has_single b l there)))
two_of (l ∷ m ∷ ls) a b here there apart = omega arith

-- a rising list whose literals are all the same has one at most
pub rising_single : (n : ℕ) (ls : List Literal) (u : Literal) → RisesAbove n ls → ((l : Literal) → has_literal ls l ≡ true → l ≡ u) → 2 ≤ length ls → ⊥
rising_single n [] u up same long = absurd (omega arith)
rising_single n (l ∷ []) u up same long = absurd (omega arith)
rising_single n (l ∷ m ∷ ls) u up same long =
    let e : l.var ≡ m.var = ap (λ (k : Literal). k.var) (same l (has_here l (m ∷ ls)) ∙ sym (same m (has_later m l (m ∷ ls) (has_here m ls)))) in
    let above : l.var < m.var = up.1.0 in omega arith

-- and it is that literal alone, where it has it
pub rising_alone : (n : ℕ) (ls : List Literal) (u : Literal) → RisesAbove n ls → ((l : Literal) → has_literal ls l ≡ true → l ≡ u) → has_literal ls u ≡ true → ls ≡ u ∷ []
rising_alone n [] u up same here = absurd (false≢true here)
rising_alone n (l ∷ []) u up same here = ap (λ (k : Literal). k ∷ []) (sym (has_single u l here))
rising_alone n (l ∷ m ∷ ls) u up same here = absurd (rising_single n (l ∷ m ∷ ls) u up same (omega arith))

-- the negations of literals
pub has_negated : (ls : List Literal) (l : Literal) → has_literal (map negate ls) l ≡ true → has_literal ls (negate l) ≡ true
has_negated [] l h = absurd (false≢true h)
has_negated (m ∷ ms) l h =
    elim (or_cases (literal_eq l (negate m)) _ h) [
      | inl e ↦ or_left _ _ (subst (λ (k : Literal). literal_eq k m ≡ true) (sym (ap negate (literal_eq-true l (negate m) e) ∙ negate_twice m)) (literal_eq-refl m))
      | inr e ↦ or_right (literal_eq (negate l) m) _ (has_negated ms l e)
    ]

pub negated_has : (ls : List Literal) (l : Literal) → has_literal ls l ≡ true → has_literal (map negate ls) (negate l) ≡ true
negated_has [] l h = absurd (false≢true h)
negated_has (m ∷ ms) l h =
    elim (or_cases (literal_eq l m) _ h) [
      | inl e ↦ or_left _ _ (subst (λ (k : Literal). literal_eq (negate k) (negate m) ≡ true) (sym (literal_eq-true l m e)) (literal_eq-refl (negate m)))
      | inr e ↦ or_right (literal_eq (negate l) (negate m)) _ (negated_has ms l e)
    ]

-- what holds of all literals holds of each, and of all of a part
pub all_has : (P : Literal → Type 0) (ls : List Literal) (l : Literal) → All P ls → has_literal ls l ≡ true → P l
all_has P [] l all h = absurd (false≢true h)
all_has P (m ∷ ms) l all h =
    elim (or_cases (literal_eq l m) _ h) [
      | inl e ↦ subst P (sym (literal_eq-true l m e)) (All-head P m ms all)
      | inr e ↦ all_has P ms l (All-tail P m ms all) e
    ]

pub all_part : (P : Literal → Type 0) (xs ys : List Literal) → IsPartOf xs ys → All P ys → All P xs
all_part P xs ys part all k d h = all_has P ys (get_or xs k d) all (part (get_or xs k d) (has_at k xs d (get_or xs k d) h refl))
