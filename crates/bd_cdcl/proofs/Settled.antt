-- What a solver's end means: an unsettled database, a model, a refutation.
use Rattle.std.proofs.Common.{◌≡◌, ℕ, ◌≤◌, Bool, true, false, List, [], ◌∷◌, ◌++◌, Option, None, Some, length, map, refl, sym, ap, ◌∙◌, subst, inl, inr, append_assoc, append-nil, arith}
use Rattle.std.specs.List.{All, cons_option}
use Rattle.std.specs.FinMap.{get}
use Rattle.std.proofs.lemmas.Bool.{false≢true, cases_Bool, and_from, or_cases}
use Rattle.std.proofs.lemmas.List.Elements.{All-head, All-tail}
use Rattle.bd_cnf.specs.Literal.{Literal, negate, literal_eq, has_literal, has_variable, literal_value}
use Rattle.bd_cnf.specs.Clause.{IsTautology, clause_value, Satisfies}
use Rattle.bd_cnf.specs.Standing.{Standing}
use Rattle.bd_cnf.specs.Trail.{is_false, open_literals, IsConsistent, IsPartOf, IsClosed, AreClosed}
use Rattle.bd_cnf.proofs.Literals.{any_has, value_from_has, negate_apart, negate_from_apart, same_literal, literal_eq-true, literal_eq-refl}
use Rattle.bd_cnf.proofs.Closed.{has_variable_of, part_variable}
use Rattle.bd_lrat.specs.declared.line.Hint.TheVariants as hint
use Rattle.bd_lrat.specs.Propagation.{Conflict, propagate}
use Rattle.bd_lrat.specs.Log.{IsUnsettled, HaveDifferentVariables}
use Rattle.bd_lrat.proofs.Closed.{closed_no_conflict, closed_never_reaches}
use Rattle.bd_watch.specs.Levels.{Assigned, literals, decided, decisions, reasons, ArePlaced, IsComplete}
use Rattle.bd_watch.specs.Trails.{IsLastDecision}
use Rattle.bd_watch.proofs.Parts.{part_nil, has_here, literal_of, open_has, has_negated}
use Rattle.bd_watch.proofs.Different.{different_push}
use Rattle.bd_watch.proofs.Placed.{decisions_part, complete_consistent}
use Rattle.bd_cdcl.proofs.Replay.{replay_conflict}
use Rattle.bd_cdcl.proofs.Learned.{decisions_at, front_complete, front_closed, front_free}

placed_different : (standing : Standing) (before : List Literal) (trail : List Assigned) → HaveDifferentVariables before → ArePlaced standing before trail → HaveDifferentVariables (before ++ literals trail)
placed_different standing before [] so all = subst HaveDifferentVariables (sym (append-nil before)) so
placed_different standing before (a ∷ rest) so all =
    subst HaveDifferentVariables (append_assoc before (a.literal ∷ []) (literals rest)) (placed_different standing (before ++ a.literal ∷ []) rest (different_push before a.literal so all.0.unassigned) all.1)

decisions_different : (trail : List Assigned) → HaveDifferentVariables (literals trail) → HaveDifferentVariables (decisions trail)
decisions_different [] so = tt
decisions_different (a ∷ rest) so = first a.reason (decisions_different rest so.1)
  where
    first : (r : Option ℕ) → HaveDifferentVariables (decisions rest) → HaveDifferentVariables (cons_option (decided a.literal r) (decisions rest))
    first None more = (part_variable (decisions rest) (literals rest) a.literal.var (decisions_part rest) so.0, more)
    first (Some id) more = more

-- the decisions of a complete trail are of different variables
pub complete_different : (standing : Standing) (trail : List Assigned) → IsComplete standing trail → HaveDifferentVariables (decisions trail)
complete_different standing trail all = decisions_different trail (placed_different standing [] trail tt all)

-- so no clause has one and its negation
pub different_consistent : (ls : List Literal) → HaveDifferentVariables ls → (l : Literal) → has_literal ls l ≡ true → has_literal ls (negate l) ≡ true → ⊥
different_consistent [] so l here there = false≢true here
different_consistent (m ∷ ms) so l here there =
    elim (or_cases (literal_eq l m) _ here) [
      | inl e ↦ elim (or_cases (literal_eq (negate l) m) _ there) [
        | inl f ↦ negate_apart l (literal_eq-true l m e ∙ sym (literal_eq-true (negate l) m f))
        | inr f ↦ false≢true (sym so.0 ∙ subst (λ v. has_variable ms v ≡ true) (ap (λ (k : Literal). k.var) (literal_eq-true l m e)) (has_variable_of ms (negate l) f))
      ]
      | inr e ↦ elim (or_cases (literal_eq (negate l) m) _ there) [
        | inl f ↦ false≢true (sym so.0 ∙ subst (λ v. has_variable ms v ≡ true) (ap (λ (k : Literal). k.var) (literal_eq-true (negate l) m f)) (has_variable_of ms l e))
        | inr f ↦ different_consistent ms so.1 l e f
      ]
    ]

-- so their negations are no tautology
pub negations_no_tautology : (ds lits : List Literal) → HaveDifferentVariables ds → lits ≡ map negate ds → IsTautology lits → ⊥
negations_no_tautology ds lits so e (l, here, there) =
    let first : has_literal ds (negate l) ≡ true = has_negated ds l (subst (λ ls. has_literal ls l ≡ true) e here) in
    let second : has_literal ds (negate (negate l)) ≡ true = has_negated ds (negate l) (subst (λ ls. has_literal ls (negate l) ≡ true) e there) in
    different_consistent ds so (negate l) first second

-- a conflict above level 0 leaves what stands unsettled
pub conflict_unsettled : (standing : Standing) (trail front : List Assigned) (d : Literal) (rest : List Assigned) (id : ℕ) (conflict : List Literal) → IsComplete standing trail → IsLastDecision trail front d rest → get standing id ≡ Some conflict → open_literals (literals trail) conflict ≡ [] → IsUnsettled standing
conflict_unsettled standing trail front d rest id conflict all at stands is_false =
    let consistent : IsConsistent (literals front) = complete_consistent standing front (front_complete standing trail front d rest all at) in
    let closed : AreClosed standing (literals front) = front_closed standing trail front d rest all at in
    let whole : decisions trail ≡ decisions front ++ d ∷ [] = decisions_at trail front d rest at in
    record {
      no_conflict = λ hints. closed_no_conflict standing (literals front) consistent closed hints [] (part_nil (literals front));
      decisions = decisions front;
      last = d;
      different = subst HaveDifferentVariables whole (complete_different standing trail all);
      unreached = closed_never_reaches standing (literals front) consistent closed (decisions front) d.var (decisions_part front) (front_free standing trail front d rest all at);
      hints = reasons trail ++ hint.Unit id ∷ [];
      conflict = subst (λ ds. propagate standing ds (reasons trail ++ hint.Unit id ∷ []) ≡ Conflict) whole (replay_conflict standing trail (decisions trail) id conflict all (decisions_part trail) (λ l h. h) stands is_false);
    }

-- a conflict at level 0 refutes: from nothing, the reasons and the false clause end in a conflict
pub conflict_refutes : (standing : Standing) (trail : List Assigned) (id : ℕ) (conflict : List Literal) → IsComplete standing trail → decisions trail ≡ [] → get standing id ≡ Some conflict → open_literals (literals trail) conflict ≡ [] → propagate standing [] (reasons trail ++ hint.Unit id ∷ []) ≡ Conflict
conflict_refutes standing trail id conflict all none stands is_false =
    replay_conflict standing trail [] id conflict all (part_nil (literals trail)) (subst (λ ds. IsPartOf ds []) (sym none) (part_nil [])) stands is_false

-- a closed clause all of whose variables have values has a true literal
pub closed_true : (v : ℕ → Bool) (trail clause : List Literal) → ((l : Literal) → has_literal trail l ≡ true → literal_value v l ≡ true) → ((l : Literal) → has_literal clause l ≡ true → has_variable trail l.var ≡ true) → IsClosed trail clause → clause_value v clause ≡ true
closed_true v trail clause holds all (inl some) = let found = any_has (has_literal trail) clause some in value_from_has v clause found.0 found.1 (holds found.0 found.2)
closed_true v trail clause holds all (inr two) = first (open_literals trail clause) refl two
  where
    on_trail : (l : Literal) → (has_literal clause l ≡ true) × (is_false trail l ≡ false) → has_literal trail l ≡ true
    on_trail l h =
        let found = literal_of trail l.var (all l h.0) in
        elim (cases_Bool (literal_eq found.0 l)) [
          | inl e ↦ subst (λ (k : Literal). has_literal trail k ≡ true) (literal_eq-true found.0 l e) found.1
          | inr e ↦
              let other : found.0 ≡ negate l = negate_from_apart found.0 l found.2 (λ signs. false≢true (sym e ∙ subst (λ (k : Literal). literal_eq found.0 k ≡ true) (same_literal found.0 l found.2 signs) (literal_eq-refl found.0))) in
              absurd (false≢true (sym h.1 ∙ subst (λ (k : Literal). has_literal trail k ≡ true) other found.1))
        ]

    first : (ls : List Literal) → open_literals trail clause ≡ ls → 2 ≤ length ls → clause_value v clause ≡ true
    first [] e h = absurd (omega arith)
    first (l ∷ ls) e h =
        let there = open_has trail clause l (subst (λ ks. has_literal ks l ≡ true) (sym e) (has_here l ls)) in
        value_from_has v clause l there.0 (holds l (on_trail l there))

-- clauses that are true one by one satisfy a formula
pub satisfies_all : (v : ℕ → Bool) (clauses : List (List Literal)) → All (λ c. clause_value v c ≡ true) clauses → Satisfies v clauses
satisfies_all v [] all = refl
satisfies_all v (c ∷ cs) all = and_from _ _ (All-head (λ c. clause_value v c ≡ true) c cs all) (satisfies_all v cs (All-tail (λ c. clause_value v c ≡ true) c cs all))
