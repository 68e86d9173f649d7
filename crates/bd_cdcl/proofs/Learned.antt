-- Clauses learned from a conflict: they follow, they are fresh, and they keep the trail complete that the solver goes back to.
use Rattle.std.proofs.Common.{◌≡◌, ℕ, true, false, List, [], ◌∷◌, ◌++◌, Option, None, Some, map, sym, ap, ◌∙◌, subst}
use Rattle.std.specs.List.{All, cons_option}
use Rattle.std.specs.FinMap.{get}
use Rattle.std.proofs.lemmas.Bool.{false≢true}
use Rattle.bd_cnf.specs.Literal.{Literal, negate, has_literal, has_variable}
use Rattle.bd_cnf.specs.Clause.{IsRising, SameLiterals}
use Rattle.bd_cnf.specs.Standing.{Standing}
use Rattle.bd_cnf.specs.Trail.{is_false, open_literals, IsConsistent, IsClosed, AreClosed}
use Rattle.bd_cnf.proofs.Closed.{has_variable_of, part_variable}
use Rattle.bd_lrat.specs.declared.line.Hint.TheVariants as hint
use Rattle.bd_lrat.specs.Propagation.{Conflict, propagate}
use Rattle.bd_lrat.specs.Log.{IsFreshClause}
use Rattle.bd_lrat.proofs.Closed.{fresh_from_closed}
use Rattle.bd_watch.specs.Levels.{Assigned, assigned, literals, decided, decisions, reasons, IsPlaced, IsComplete}
use Rattle.bd_watch.specs.Trails.{IsLastDecision}
use Rattle.bd_watch.specs.Watching.{IsAsserting}
use Rattle.bd_watch.proofs.AssertedLiterals.{two_free_closed}
use Rattle.bd_watch.proofs.Parts.{has_here, has_left, has_right, has_either, has_single, has_negated, negated_has}
use Rattle.bd_watch.proofs.Placed.{literals-append, decisions-append, decisions_part, complete_front, complete_at, IsClosedAtDecisions}
use Rattle.bd_cdcl.proofs.Replay.{replay_conflict}
use Rattle.bd_cnf.proofs.Literals.{negate_twice}

-- where that end is closed, the clause is fresh
pub asserting_fresh : (standing : Standing) (front : List Literal) (earlier : List (List Literal)) (clause : List Literal) (u : Literal) → IsConsistent front → AreClosed standing front → All (λ other. IsRising other × IsClosed front other) earlier → IsAsserting front clause u → IsFreshClause standing earlier clause
asserting_fresh standing front earlier clause u consistent closed known is = fresh_from_closed standing front consistent closed earlier clause u is.here is.free is.others known

pub decisions_at : (trail front : List Assigned) (d : Literal) (rest : List Assigned) → IsLastDecision trail front d rest → decisions trail ≡ decisions front ++ d ∷ []
decisions_at trail front d rest is = ap decisions is.whole ∙ decisions-append front (assigned d None ∷ rest) ∙ ap (λ ds. decisions front ++ d ∷ ds) is.implied

module _ (standing : Standing) (trail front : List Assigned) (d : Literal) (rest : List Assigned) (all : IsComplete standing trail) (at : IsLastDecision trail front d rest) where
  placed : IsPlaced standing (literals front) (assigned d None)
  placed = complete_at standing front (assigned d None) rest (subst (IsComplete standing) at.whole all)

  -- the end of the level before is complete and closed, and gives the decision's variable no value
  pub front_complete : IsComplete standing front
  front_complete = complete_front standing front (assigned d None ∷ rest) (subst (IsComplete standing) at.whole all)

  pub front_closed : AreClosed standing (literals front)
  front_closed = placed.reason

  pub front_free : has_variable (literals front) d.var ≡ false
  front_free = placed.unassigned

  module _ (clause : List Literal) (same : SameLiterals clause (map negate (decisions trail))) where
    -- the negation of a decision is in the decision clause, and no other literal
    has_decision : (l : Literal) → has_literal clause l ≡ true → has_literal (decisions trail) (negate l) ≡ true
    has_decision l h = has_negated (decisions trail) l (sym (same l) ∙ h)

    decision_has : (l : Literal) → has_literal (decisions trail) l ≡ true → has_literal clause (negate l) ≡ true
    decision_has l h = same (negate l) ∙ negated_has (decisions trail) l h

    last_there : has_literal (decisions trail) d ≡ true
    last_there = subst (λ ds. has_literal ds d ≡ true) (sym (decisions_at trail front d rest at)) (has_right (decisions front) (d ∷ []) d (has_here d []))

    -- the decision clause follows, by the reasons and the conflict
    pub decision_follows : (id : ℕ) (conflict : List Literal) → get standing id ≡ Some conflict → open_literals (literals trail) conflict ≡ [] → propagate standing (map negate clause) (reasons trail ++ hint.Unit id ∷ []) ≡ Conflict
    decision_follows id conflict stands is_false =
        replay_conflict standing trail (map negate clause) id conflict all
        (λ l h. decisions_part trail l (subst (λ (k : Literal). has_literal (decisions trail) k ≡ true) (negate_twice l) (has_decision (negate l) (has_negated clause l h))))
        (λ l h. subst (λ (k : Literal). has_literal (map negate clause) k ≡ true) (negate_twice l) (negated_has clause (negate l) (decision_has l h)))
        stands is_false

    -- it is false at the end of the level before, but for the last decision's negation
    pub decision_asserting : IsAsserting (literals front) clause (negate d)
    decision_asserting = record {
      here = decision_has d last_there;
      free = front_free;
      others = λ l h apart. has_either (decisions front) (d ∷ []) (negate l) (subst (λ ds. has_literal ds (negate l) ≡ true) (decisions_at trail front d rest at) (has_decision l h))
          (λ old. decisions_part front (negate l) old)
          (λ new. absurd (apart (sym (negate_twice l) ∙ ap negate (has_single (negate l) d new))));
    }

    -- at each decision in front of the last, its negation and the last one's have no value
    pub decision_closed : IsClosedAtDecisions front clause
    decision_closed xs a ys e no_reason =
        two_free_closed (literals xs) clause (negate d) (negate a.literal) (decision_has d last_there) (decision_has a.literal (subst (λ ds. has_literal ds a.literal ≡ true) (sym (decisions_at trail front d rest at)) (has_left (decisions front) (d ∷ []) a.literal here)))
        apart
        (part_variable (literals xs) (literals front) d.var (λ l h. subst (λ ls. has_literal ls l ≡ true) (sym split) (has_left (literals xs) (a.literal ∷ literals ys) l h)) front_free)
        (complete_at standing xs a ys (subst (IsComplete standing) e front_complete)).unassigned
      where
        split : literals front ≡ literals xs ++ a.literal ∷ literals ys
        split = ap literals e ∙ literals-append xs (a ∷ ys)

        kept : (l : Literal) (r : Option ℕ) (ds : List Literal) → r ≡ None → has_literal (cons_option (decided l r) ds) l ≡ true
        kept l None ds h = has_here l ds
        kept l (Some id) ds h = cc

        here : has_literal (decisions front) a.literal ≡ true
        here = subst (λ ls. has_literal ls a.literal ≡ true) (sym (ap decisions e ∙ decisions-append xs (a ∷ ys))) (has_right (decisions xs) (decisions (a ∷ ys)) a.literal (kept a.literal a.reason (decisions ys) no_reason))

        apart : negate d ≡ negate a.literal → ⊥
        apart same_literals =
            let there : has_variable (literals front) a.literal.var ≡ true = has_variable_of (literals front) a.literal (subst (λ ls. has_literal ls a.literal ≡ true) (sym split) (has_right (literals xs) (a.literal ∷ literals ys) a.literal (has_here a.literal (literals ys)))) in
            false≢true (sym front_free ∙ subst (λ v. has_variable (literals front) v ≡ true) (sym (ap (λ (l : Literal). l.var) same_literals)) there)
