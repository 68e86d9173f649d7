-- What an analysis teaches: a clause that is unit at the end of a lower level, and fresh.
use Rattle.std.proofs.Common.{◌≡◌, ◌≢◌, ℕ, ◌+◌, ◌<◌, ◌≤◌, Bool, true, false, List, [], ◌∷◌, ◌++◌, Option, None, Some, length, get_or, refl, sym, ap, ◌∙◌, subst, inl, inr, arith}
use Rattle.std.specs.Prelude.{IfSome, IfNone, unwrap_or}
use Rattle.std.proofs.lemmas.List.{length_push}
use Rattle.std.proofs.lemmas.Bool.{false≢true, cases_lt, or_cases}
use Rattle.bd_cnf.specs.Literal.{Literal, negate, literal_eq, has_literal, has_variable}
use Rattle.bd_cnf.specs.Clause.{IsRising, SameLiterals}
use Rattle.bd_cnf.specs.Trail.{is_false}
use Rattle.bd_cnf.proofs.Literals.{literal_eq-true}
use Rattle.bd_cnf.proofs.Closed.{has_variable_of, part_variable}
use Rattle.bd_watch.specs.Levels.{Assigned, assigned, literals}
use Rattle.bd_watch.specs.Trails.{IsDecisionAt, IsLastStart, IsStartFrom, IsPlaceOf}
use Rattle.bd_watch.specs.Watching.{front, IsAsserting}
use Rattle.bd_watch.proofs.Parts.{has_here, has_later, has_left, has_right, has_single, has_either, two_of, literal_of, rising_single}
use Rattle.bd_watch.proofs.Fronts.{in_front, place_in_front, place_of, front_within}
use Rattle.bd_cdcl.specs.declared.cdcl.learn.Second.{Second}
use Rattle.bd_cdcl.specs.inner.Analysis.{IsUnique}
use Rattle.bd_cdcl.specs.inner.Analyses.{IsSecond}

-- with no other literal, all is found
pub second_none : (trail : List Assigned) (first : Literal) → IsSecond trail [] (record { literal = first; floor = 0 })
second_none trail first = record {
  here = λ h. absurd (omega arith);
  some = λ h. absurd (omega arith);
  others = λ l h. absurd (false≢true h);
  free = λ p h. absurd (omega arith);
}

module _ (trail : List Assigned) (rest : List Literal) (s : Second) (l : Literal) (place : ℕ) (is : IsSecond trail rest s) (at : IsPlaceOf trail l.var place) (bad : is_false (literals trail) l ≡ true) (once : (p q : ℕ) (d : Assigned) → p < length trail → q < length trail → (get_or trail p d).literal.var ≡ (get_or trail q d).literal.var → p ≡ q) where
  there : has_literal (front trail (place + 1)) (negate l) ≡ true
  there =
      let so = place_of trail (negate l) bad in
      let d : Assigned = assigned l None in
      let same : so.place ≡ place = once so.place place d so.within at.within (ap (λ (m : Literal). m.var) (so.is d) ∙ sym (at.is d)) in
      subst (λ (m : Literal). has_literal (front trail (place + 1)) m ≡ true) (so.is d) (in_front trail so.place (place + 1) d (omega arith) so.within)

  alone_free : (p : ℕ) → p ≤ place → has_variable (front trail p) l.var ≡ false
  alone_free p h = none (has_variable (front trail p) l.var) refl
    where
      d : Assigned
      d = assigned l None

      none : (b : Bool) → has_variable (front trail p) l.var ≡ b → has_variable (front trail p) l.var ≡ false
      none false e = e
      none true e =
          let (m, here, same) = literal_of (front trail p) l.var e in
          let so = place_in_front trail p m here in
          let both : so.place ≡ place = once so.place place d so.within at.within (ap (λ (k : Literal). k.var) (so.is d) ∙ same ∙ sym (at.is d)) in
          let before : so.place < p = so.before in
          absurd (omega arith)

  -- one literal more that became false later than the others
  pub second_later : s.floor ≤ place → IsSecond trail (rest ++ l ∷ []) (record { literal = l; floor = place + 1 })
  second_later h = record {
    here = λ _. has_right rest (l ∷ []) l (has_here l []);
    some = λ _. omega (arith, length_push rest l);
    others = λ m k. has_either rest (l ∷ []) m k
        (λ old. front_within trail s.floor (place + 1) (omega arith) (negate m) (is.others m old))
        (λ new. subst (λ (x : Literal). is_false (front trail (place + 1)) x ≡ true) (sym (has_single m l new)) there);
    free = λ p k. alone_free p (omega arith);
  }

  -- or earlier
  pub second_earlier : place < s.floor → IsSecond trail (rest ++ l ∷ []) s
  second_earlier h = record {
    here = λ _. has_left rest (l ∷ []) s.literal (is.here (is.some (omega arith)));
    some = λ _. omega (arith, length_push rest l);
    others = λ m k. has_either rest (l ∷ []) m k (is.others m)
        (λ new. subst (λ (x : Literal). is_false (front trail s.floor) x ≡ true) (sym (has_single m l new)) (front_within trail (place + 1) s.floor (omega arith) (negate l) there));
    free = is.free;
  }

module _ (trail : List Assigned) (start : ℕ) (marks : List Bool) (u : Literal) (rest clause : List Literal) (s : Second) (unique : IsUnique trail marks start 0 u rest) (is : IsSecond trail rest s) (same : SameLiterals clause (u ∷ rest)) (last : IsLastStart trail start) where
  -- the first literal isn't among the others
  apart : (l : Literal) → has_literal rest l ≡ true → l ≡ u → ⊥
  apart l h e =
      let on : has_variable (front trail start) l.var ≡ true = has_variable_of (front trail start) (negate l) (unique.others l h) in
      false≢true (sym unique.free ∙ subst (λ (m : Literal). has_variable (front trail start) m.var ≡ true) e on)

  of_rest : (l : Literal) → has_literal clause l ≡ true → (l ≡ u → ⊥) → has_literal rest l ≡ true
  of_rest l h other = elim (or_cases (literal_eq l u) _ (sym (same l) ∙ h)) [
    | inl e ↦ absurd (other (literal_eq-true l u e))
    | inr e ↦ e
  ]

  -- the others became false before the last level began
  pub floor_low : s.floor ≤ start
  floor_low = elim (cases_lt start s.floor) [
    | inl h ↦
        let here = is.here (is.some (omega arith)) in
        absurd (false≢true (sym (is.free start h) ∙ has_variable_of (front trail start) (negate s.literal) (unique.others s.literal here)))
    | inr h ↦ h
  ]

  pub asserting_at : (place : ℕ) → s.floor ≤ place → place ≤ start → IsAsserting (front trail place) clause u
  asserting_at place low high = record {
    here = same u ∙ has_here u rest;
    free = part_variable (front trail place) (front trail start) u.var (front_within trail place start high) unique.free;
    others = λ l h other. front_within trail s.floor place low (negate l) (is.others l (of_rest l h other));
  }

  -- two literals of the clause, where there are two
  pub pair_there : 0 < length rest → (has_literal clause s.literal ≡ true) × (u ≢ s.literal)
  pair_there some = (same s.literal ∙ has_later s.literal u rest (is.here some), λ e. apart s.literal (is.here some) (sym e))

  pub two_there : 0 < length rest → 2 ≤ length clause
  two_there some = let both = pair_there some in two_of clause u s.literal (same u ∙ has_here u rest) both.0 both.1

  -- a clause of two literals has another than the first
  pub rest_some : 2 ≤ length clause → IsRising clause → 0 < length rest
  rest_some long rising = elim (cases_lt 0 (length rest)) [
    | inl h ↦ h
    | inr h ↦ absurd (rising_single 0 clause u rising (λ l here. elim (or_cases (literal_eq l u) _ (sym (same l) ∙ here)) [
      | inl e ↦ literal_eq-true l u e
      | inr e ↦ absurd (nothing rest l (omega arith) e)
    ]) long)
  ]
    where
      nothing : (ls : List Literal) (l : Literal) → length ls ≤ 0 → has_literal ls l ≡ true → ⊥
      nothing [] l h e = false≢true e
      nothing (m ∷ ms) l h e = absurd (omega arith)

-- the place that is gone back to
pub record IsCut (trail : List Assigned) (start floor cut : ℕ) : Type 0 where
  pub decision : IsDecisionAt trail cut
  pub low : floor ≤ cut
  pub high : cut ≤ start
  pub before : (p : ℕ) → p < cut → IsDecisionAt trail p → p < floor

pub is_cut : (trail : List Assigned) (start floor : ℕ) (o : Option ℕ) → IsLastStart trail start → floor ≤ start → IfSome o (IsStartFrom trail floor) → IfNone o ((p : ℕ) → IsDecisionAt trail p → p < floor) → IsCut trail start floor (unwrap_or o start)
is_cut trail start floor None last low f n = record { decision = last.decision; low = low; high = omega arith; before = λ p h d. n p d }
is_cut trail start floor (Some c) last low f n = record {
  decision = f.decision;
  low = f.after;
  high = f.first start last.decision low;
  before = λ p h d. elim (cases_lt p floor) [ inl k ↦ k | inr k ↦ let bound : c ≤ p = f.first p d k in absurd (omega arith) ];
}
