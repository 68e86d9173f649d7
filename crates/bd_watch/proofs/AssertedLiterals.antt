-- Clauses that are false at the end of a level but for one literal: they are unit there, and keep the trail complete that takes it.
use Rattle.std.proofs.Common.{◌≡◌, ℕ, true, false, not, List, [], ◌∷◌, ◌++◌, None, Some, sym, ◌∙◌, subst, inl, inr}
use Rattle.std.specs.Prelude.{IsSomeAnd}
use Rattle.std.specs.FinMap.{get, insert}
use Rattle.std.proofs.lemmas.Bool.{false≢true, true≢false, cases_Bool}
use Rattle.bd_cnf.specs.Literal.{Literal, literal_eq, has_literal, has_variable}
use Rattle.bd_cnf.specs.Clause.{IsRising}
use Rattle.bd_cnf.specs.Standing.{Standing}
use Rattle.bd_cnf.specs.Trail.{is_false, open_literals, IsClosed}
use Rattle.bd_cnf.proofs.Literals.{literal_eq-true, literal_eq-refl}
use Rattle.bd_watch.specs.Levels.{Assigned, assigned, literals, IsComplete}
use Rattle.bd_watch.specs.Watching.{IsAsserting}
use Rattle.bd_watch.proofs.Parts.{not_false, open_from, open_has, two_of, rising_alone}
use Rattle.bd_watch.proofs.Placed.{complete_push, complete_insert, added_stands, IsClosedAtDecisions}
use Rattle.bd_cnf.proofs.Closed.{rises_filter}

-- such a clause is unit there
pub asserting_unit : (front clause : List Literal) (u : Literal) → IsRising clause → IsAsserting front clause u → open_literals front clause ≡ u ∷ []
asserting_unit front clause u rising is =
    rising_alone 0 (open_literals front clause) u (rises_filter (λ l. not (is_false front l)) 0 clause rising) only (open_from front clause u is.here (not_false front u is.free))
  where
    only : (l : Literal) → has_literal (open_literals front clause) l ≡ true → l ≡ u
    only l h =
        let both = open_has front clause l h in
        elim (cases_Bool (literal_eq l u)) [
          | inl e ↦ literal_eq-true l u e
          | inr e ↦ absurd (false≢true (sym both.1 ∙ is.others l both.0 (λ same. true≢false (sym (subst (λ (k : Literal). literal_eq l k ≡ true) same (literal_eq-refl l)) ∙ e))))
        ]

-- a clause with two literals whose variables have no value is neither unit nor false
pub two_free_closed : (front clause : List Literal) (u w : Literal) → has_literal clause u ≡ true → has_literal clause w ≡ true → (u ≡ w → ⊥) → has_variable front u.var ≡ false → has_variable front w.var ≡ false → IsClosed front clause
two_free_closed front clause u w here there apart free also = inr (two_of (open_literals front clause) u w (open_from front clause u here (not_false front u free)) (open_from front clause w there (not_false front w also)) apart)

-- the trail that the solver goes back to stays complete over the clause, which implies its literal there
pub asserted_complete : (standing : Standing) (front : List Assigned) (id : ℕ) (clause : List Literal) (u : Literal) → get standing id ≡ None → IsRising clause → IsComplete standing front → IsClosedAtDecisions front clause → IsAsserting (literals front) clause u → IsComplete (insert standing id clause) (front ++ assigned u (Some id) ∷ [])
asserted_complete standing front id clause u none rising all closed is =
    complete_push (insert standing id clause) front (assigned u (Some id)) (complete_insert standing id clause front none closed all) (record {
      unassigned = is.free;
      reason = subst (λ o. IsSomeAnd o (λ c. open_literals (literals front) c ≡ u ∷ [])) (sym (added_stands standing id clause)) (asserting_unit (literals front) clause u rising is);
    })
