-- Clauses that a trail makes true or leaves opens, as the trail grows and shrinks.
use Rattle.std.proofs.Common.{◌≡◌, ◌≢◌, ℕ, ◌+◌, ◌<◌, ◌≤◌, true, false, not, List, [], ◌∷◌, ◌++◌, length, get_or, take, drop, refl, sym, ap, ◌∙◌, subst, inl, inr}
use Rattle.std.specs.Prelude.{◌⊎◌}
use Rattle.std.specs.List.{list_any}
use Rattle.std.proofs.lemmas.Bool.{true≢false, cases_Bool, or_from}
use Rattle.std.proofs.lemmas.List.{take-append-drop, take-append-le, take_all, take_more}
use Rattle.bd_cnf.specs.Literal.{Literal, negate, literal_eq, has_literal}
use Rattle.bd_cnf.specs.Clause.{IsRising}
use Rattle.bd_cnf.specs.Trail.{is_false, open_literals, IsClosed, IsPartOf}
use Rattle.bd_cnf.proofs.Literals.{any_has, any_from_has, has-push, literal_eq-true, literal_eq-refl, negate_twice}
use Rattle.bd_cnf.proofs.Closed.{part_not_false, rises_filter}
use Rattle.bd_watch.specs.declared.watcher.WatchedPair.{WatchedPair}
use Rattle.bd_watch.specs.Levels.{Assigned, literals}
use Rattle.bd_watch.specs.Watching.{IsPair, IsGuarded, front}
use Rattle.bd_watch.proofs.Parts.{has_left, open_from, open_has, two_of, rising_alone, has_here}
use Rattle.bd_watch.proofs.Placed.{literals-append}

-- what is in front of a place is a part of the trail
pub front_part : (trail : List Assigned) (place : ℕ) → IsPartOf (front trail place) (literals trail)
front_part trail place l h =
    subst (λ ls. has_literal ls l ≡ true) (sym (literals-append (take place trail) (drop place trail)) ∙ ap literals (take-append-drop place trail)) (has_left (front trail place) (literals (drop place trail)) l h)

pub front_grown : (trail more : List Assigned) (place : ℕ) → place ≤ length trail → front (trail ++ more) place ≡ front trail place
front_grown trail more place h = ap literals (take-append-le place trail more h)

pub front_all : (trail : List Assigned) (place : ℕ) → length trail ≤ place → front trail place ≡ literals trail
front_all trail place h = ap literals (take_all place trail h)

pub front_more : (trail : List Assigned) (place : ℕ) (d : Assigned) → place < length trail → front trail (place + 1) ≡ front trail place ++ (get_or trail place d).literal ∷ []
front_more trail place d h = ap literals (take_more trail place d h) ∙ literals-append (take place trail) (get_or trail place d ∷ [])

-- a clause that is true stays true
pub true_grown : (trail more clause : List Literal) → list_any (has_literal trail) clause ≡ true → list_any (has_literal (trail ++ more)) clause ≡ true
true_grown trail more clause h =
    let found = any_has (has_literal trail) clause h in
    any_from_has (has_literal (trail ++ more)) clause found.0 found.1 (has_left trail more found.0 found.2)

pub guarded_grown : (done trail more clause : List Literal) (p : WatchedPair) → IsGuarded done trail clause p → IsGuarded done (trail ++ more) clause p
guarded_grown done trail more clause p (inl holds) = inl (true_grown trail more clause holds)
guarded_grown done trail more clause p (inr opens) = inr opens

-- a literal that the trail doesn't make false is false nowhere in front
pub front_open : (trail : List Assigned) (place : ℕ) (l : Literal) → is_false (literals trail) l ≡ false → is_false (front trail place) l ≡ false
front_open trail place l h = part_not_false (front trail place) (literals trail) l (front_part trail place) h

-- a clause that is guarded by the whole trail is neither unit nor false
pub guarded_closed : (trail clause : List Literal) (p : WatchedPair) → (2 ≤ length clause → IsPair clause p) → IsGuarded trail trail clause p → IsClosed trail clause
guarded_closed trail clause p pair (inl holds) = inl holds
guarded_closed trail clause p pair (inr opens) =
    let two = pair opens.long in
    inr (two_of (open_literals trail clause) p.first p.second (open_from trail clause p.first two.first opens.first) (open_from trail clause p.second two.second opens.second) two.apart)

-- one more literal is done, which makes no watched literal of a clause false that isn't true
pub guarded_more : (done trail clause : List Literal) (l : Literal) (p : WatchedPair) → (2 ≤ length clause → (p.first ≡ negate l) ⊎ (p.second ≡ negate l) → list_any (has_literal trail) clause ≡ true) → IsGuarded done trail clause p → IsGuarded (done ++ l ∷ []) trail clause p
guarded_more done trail clause l p settled (inl holds) = inl holds
guarded_more done trail clause l p settled (inr opens) =
    elim (cases_Bool (literal_eq (negate p.first) l)) [
      | inl e ↦ inl (settled opens.long (inl (turned p.first e)))
      | inr e ↦ elim (cases_Bool (literal_eq (negate p.second) l)) [
        | inl f ↦ inl (settled opens.long (inr (turned p.second f)))
        | inr f ↦ inr (record { long = opens.long; first = still p.first opens.first e; second = still p.second opens.second f })
      ]
    ]
  where
    turned : (m : Literal) → literal_eq (negate m) l ≡ true → m ≡ negate l
    turned m e = sym (negate_twice m) ∙ ap negate (literal_eq-true (negate m) l e)

    still : (m : Literal) → is_false done m ≡ false → literal_eq (negate m) l ≡ false → is_false (done ++ l ∷ []) m ≡ false
    still m not_false apart = has-push done l (negate m) ∙ or_from _ _ not_false apart

-- literals that are the same or not
pub apart_from : (l m : Literal) → literal_eq l m ≡ false → l ≢ m
apart_from l m e same = true≢false (sym (subst (λ (k : Literal). literal_eq l k ≡ true) same (literal_eq-refl l)) ∙ e)

-- a clause whose literals are all false but one, which isn't, is unit
pub unit_besides : (trail clause : List Literal) (other : Literal) → IsRising clause → has_literal clause other ≡ true → ((l : Literal) → has_literal clause l ≡ true → literal_eq l other ≡ false → is_false trail l ≡ true) → is_false trail other ≡ false → open_literals trail clause ≡ other ∷ []
unit_besides trail clause other rising here besides opens =
    rising_alone 0 (open_literals trail clause) other (rises_filter (λ l. not (is_false trail l)) 0 clause rising) only (open_from trail clause other here opens)
  where
    only : (l : Literal) → has_literal (open_literals trail clause) l ≡ true → l ≡ other
    only l h =
        let both = open_has trail clause l h in
        elim (cases_Bool (literal_eq l other)) [
          | inl e ↦ literal_eq-true l other e
          | inr e ↦ absurd (true≢false (sym (besides l both.0 e) ∙ both.1))
        ]

-- and where it is false too, so is the clause
pub false_besides : (trail clause : List Literal) (other : Literal) → ((l : Literal) → has_literal clause l ≡ true → literal_eq l other ≡ false → is_false trail l ≡ true) → is_false trail other ≡ true → open_literals trail clause ≡ []
false_besides trail clause other besides bad = none (open_literals trail clause) (λ l h.
    let both = open_has trail clause l h in
    elim (cases_Bool (literal_eq l other)) [
      | inl e ↦ true≢false (sym (subst (λ (k : Literal). is_false trail k ≡ true) (sym (literal_eq-true l other e)) bad) ∙ both.1)
      | inr e ↦ true≢false (sym (besides l both.0 e) ∙ both.1)
    ])
  where
    none : (ls : List Literal) → ((l : Literal) → has_literal ls l ≡ true → ⊥) → ls ≡ []
    none [] nowhere = refl
    none (l ∷ ls) nowhere = absurd (nowhere l (has_here l ls))
