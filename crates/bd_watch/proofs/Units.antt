-- The literals of clauses that have one alone, before anything is propagated.
use Rattle.std.proofs.Common.{◌≡◌, ℕ, ◌+◌, ◌<◌, ◌≤◌, true, false, not, cond, List, [], ◌∷◌, ◌++◌, None, Some, length, refl, sym, ap, ◌∙◌, subst, inl, inr, arith}
use Rattle.std.specs.Prelude.{IsSomeAnd, slice_get}
use Rattle.std.specs.List.{list_any}
use Rattle.std.proofs.lemmas.Bool.{cases_eq}
use Rattle.std.proofs.lemmas.List.Elements.{All-push, All-head}
use Rattle.bd_cnf.specs.Literal.{Literal, has_literal}
use Rattle.bd_cnf.specs.Standing.{IsBelow}
use Rattle.bd_cnf.specs.Trail.{is_false, open_literals}
use Rattle.bd_cnf.proofs.Literals.{any_from_has}
use Rattle.bd_lrat.specs.Database.{numbered}
use Rattle.bd_watch.specs.declared.watch.Watch.{Watch}
use Rattle.bd_watch.specs.Levels.{Assigned, assigned, literals, decisions, IsComplete}
use Rattle.bd_watch.specs.Trails.{LeveledTrail, extended}
use Rattle.bd_watch.specs.Watching.{clause_at}
use Rattle.bd_watch.specs.inner.Loading.{IsStarting, StartsUnit}
use Rattle.bd_watch.proofs.Parts.{has_here, has_pushed, unassigned_from}
use Rattle.bd_watch.proofs.Placed.{literals-append, decisions-append, complete_push}
use Rattle.bd_watch.proofs.Numbered.{numbered_at}
use Rattle.bd_watch.proofs.VisitedClauses.{with_trail}
use Rattle.bd_watch.proofs.Guards.{true_grown}

-- a clause of fewer than two literals that has a first one
pub single_from : (ls : List Literal) (l : Literal) → Some l ≡ slice_get ls 0 → length ls < 2 → ls ≡ l ∷ []
single_from [] l e short = cc
single_from (m ∷ []) l e short = let same : l ≡ m = cc in ap (λ (k : Literal). k ∷ []) (sym same)
single_from (m ∷ k ∷ ls) l e short = absurd (omega arith)

pub empty_from : (ls : List Literal) → None ≡ slice_get ls 0 → ls ≡ []
empty_from [] e = refl
empty_from (l ∷ ls) e = cc

-- a false clause
pub unit_conflicts : (w : Watch) (i : ℕ) → IsStarting w i → i < length w.clauses → open_literals (literals w.trail.entries) (clause_at w.clauses i) ≡ [] → StartsUnit w w i true
unit_conflicts w i is h bad = record {
  clauses = refl;
  limit = refl;
  complete = is.complete;
  level_zero = is.level_zero;
  started = subst (λ o. IsSomeAnd o (λ c. open_literals (literals w.trail.entries) c ≡ [])) (sym (numbered_at w.clauses i [] h)) bad;
}

more_units : (w : Watch) (trail : List Literal) (i : ℕ) → ((k : ℕ) → k < i → length (clause_at w.clauses k) ≤ 1 → list_any (has_literal trail) (clause_at w.clauses k) ≡ true) → (length (clause_at w.clauses i) ≤ 1 → list_any (has_literal trail) (clause_at w.clauses i) ≡ true) → (k : ℕ) → k < i + 1 → length (clause_at w.clauses k) ≤ 1 → list_any (has_literal trail) (clause_at w.clauses k) ≡ true
more_units w trail i before here k h short =
    elim (cases_eq k i) [
      | inl e ↦ subst (λ n. list_any (has_literal trail) (clause_at w.clauses n) ≡ true) (sym e) (here (subst (λ n. length (clause_at w.clauses n) ≤ 1) e short))
      | inr apart ↦ before k (omega (arith, apart)) short
    ]

-- a unit is implied
pub unit_implied : (w : Watch) (t : LeveledTrail) (i id : ℕ) (l : Literal) → IsStarting w i → i < length w.clauses → clause_at w.clauses i ≡ l ∷ [] → has_literal (literals w.trail.entries) l ≡ false → is_false (literals w.trail.entries) l ≡ false → id ≡ i + 1 → t ≡ extended w.trail (assigned l (Some id)) → length t.entries ≤ t.limit → l.var < w.trail.limit → StartsUnit w (with_trail w t) i false
unit_implied w t i id l is h single not_true not_false same new room low =
    subst (λ (u : LeveledTrail). StartsUnit w (with_trail w u) i false) (sym now) (record {
      clauses = refl;
      limit = refl;
      complete = complete;
      level_zero = level_zero;
      started = record {
        watched = is.watched;
        complete = complete;
        room = subst (λ (u : LeveledTrail). length u.entries ≤ u.limit) now room;
        below = subst (IsBelow w.trail.limit) (sym whole) (All-push (λ (m : Literal). m.var < w.trail.limit) (literals w.trail.entries) l is.below low);
        level_zero = level_zero;
        head = is.head;
        units = more_units w (literals (w.trail.entries ++ a ∷ [])) i
            (λ k low short. subst (λ ls. list_any (has_literal ls) (clause_at w.clauses k) ≡ true) (sym whole) (true_grown (literals w.trail.entries) (l ∷ []) (clause_at w.clauses k) (is.units k low short)))
            (λ short. subst (λ ls. list_any (has_literal ls) (clause_at w.clauses i) ≡ true) (sym whole) (any_from_has (has_literal (literals w.trail.entries ++ l ∷ [])) (clause_at w.clauses i) l here (has_pushed (literals w.trail.entries) l)));
      };
    })
  where
    a : Assigned
    a = assigned l (Some (i + 1))

    now : t ≡ extended w.trail a
    now = new ∙ ap (λ n. extended w.trail (assigned l (Some n))) same

    whole : literals (w.trail.entries ++ a ∷ []) ≡ literals w.trail.entries ++ l ∷ []
    whole = literals-append w.trail.entries (a ∷ [])

    here : has_literal (clause_at w.clauses i) l ≡ true
    here = subst (λ c. has_literal c l ≡ true) (sym single) (has_here l [])

    unit : open_literals (literals w.trail.entries) (clause_at w.clauses i) ≡ l ∷ []
    unit = ap (open_literals (literals w.trail.entries)) single ∙ ap (λ b. cond (not b) (l ∷ []) []) not_false

    complete : IsComplete (numbered w.clauses) (w.trail.entries ++ a ∷ [])
    complete = complete_push (numbered w.clauses) w.trail.entries a is.complete (record {
      unassigned = unassigned_from (literals w.trail.entries) l not_true not_false;
      reason = subst (λ o. IsSomeAnd o (λ c. open_literals (literals w.trail.entries) c ≡ l ∷ [])) (sym (numbered_at w.clauses i [] h)) unit;
    })

    level_zero : decisions (w.trail.entries ++ a ∷ []) ≡ []
    level_zero = decisions-append w.trail.entries (a ∷ []) ∙ ap (λ ds. ds ++ []) is.level_zero

-- a unit whose negation is true is false
pub unit_false : (trail clause : List Literal) (l : Literal) → clause ≡ l ∷ [] → is_false trail l ≡ true → open_literals trail clause ≡ []
unit_false trail clause l single bad = ap (open_literals trail) single ∙ ap (λ b. cond (not b) (l ∷ []) []) bad

pub unit_below : (w : Watch) (i : ℕ) (l : Literal) → IsStarting w i → i < length w.clauses → clause_at w.clauses i ≡ l ∷ [] → l.var < w.trail.limit
unit_below w i l is h single =
    All-head (λ (m : Literal). m.var < w.trail.limit) l [] (subst (IsBelow w.trail.limit) single (is.watched.below i [] h))

-- all clauses were looked at
pub units_end : (w : Watch) (count : ℕ) → IsStarting w count → length w.clauses ≤ count → IsStarting w (length w.clauses)
units_end w count is past = record {
  watched = is.watched;
  complete = is.complete;
  room = is.room;
  below = is.below;
  level_zero = is.level_zero;
  head = is.head;
  units = λ i h short. is.units i (omega arith) short;
}
