-- An accepted line keeps each assignment that makes what stands true.
use Rattle.std.proofs.Common.{◌≡◌, ℕ, Bool, true, false, not, cond, List, [], ◌∷◌, ◌++◌, Option, None, Some, IfSome, map, sym, ap, ◌∙◌, subst, inl, inr}
use Rattle.std.specs.List.{All, list_any}
use Rattle.std.specs.FinMap.{get}
use Rattle.std.proofs.lemmas.Bool.{false≢true, cases_Bool, or_cases, or_parts, and_parts}
use Rattle.std.proofs.lemmas.List.Elements.{All-nil, All-cons}
use Rattle.bd_cnf.specs.Literal.{Literal, negate, literal_eq, has_literal, literal_value}
use Rattle.bd_cnf.specs.Clause.{clause_value, clauses_value, Satisfies}
use Rattle.bd_cnf.specs.Problem.{Problem}
use Rattle.bd_cnf.proofs.Literals.{literal_eq-true, has-filter, negate-value, has-push, has_from_value}
use Rattle.bd_lrat.specs.declared.line.Hint.{Hint}
use Rattle.bd_lrat.specs.declared.line.Hint.TheVariants as hint
use Rattle.bd_lrat.specs.declared.line.Line.{Line}
use Rattle.bd_lrat.specs.declared.line.Line.TheVariants.{Add, Delete}
use Rattle.bd_lrat.specs.Propagation.{Outcome, Conflict, Reached, Stopped, unit_outcome, clause_outcome, hint_outcome, and_then, propagate}
use Rattle.bd_cnf.specs.Standing.{Standing, Models}
use Rattle.bd_cnf.specs.Trail.{is_false, open_literals}
use Rattle.bd_cnf.proofs.Standings.{each_insert}
use Rattle.bd_lrat.specs.Database.{Database, database_of, IsAccepted, after}
use Rattle.bd_lrat.specs.Log.{IsAcceptedLog, IsRefutation, adds_empty}
use Rattle.std.proofs.Common.{Result, Ok, Err, OnOk, is_ok}
use Rattle.bd_lrat.specs.declared.refused.Refused.{Refused}
use Rattle.bd_lrat.specs.Database.{line_answer}
use Rattle.bd_lrat.proofs.AnswersAccepted.{accepted_from_ok}
use Rattle.bd_lrat.proofs.Standings.{each_remove_all, each_numbered}

-- v makes each literal true
abbrev pub AllTrue : (ℕ → Bool) → List Literal → Type 0
AllTrue v ls = (l : Literal) → has_literal ls l ≡ true → literal_value v l ≡ true

-- where v makes what stands on the trail true, and no conflict comes
abbrev pub IsTrueOutcome : (ℕ → Bool) → Outcome → Type 0
IsTrueOutcome v Conflict = ⊥
IsTrueOutcome v (Reached trail) = AllTrue v trail
IsTrueOutcome v (Stopped r) = Unit {0}

-- a true literal of the clause is open
true_is_open : (v : ℕ → Bool) (trail clause : List Literal) (l : Literal) → AllTrue v trail → has_literal clause l ≡ true → literal_value v l ≡ true → has_literal (open_literals trail clause) l ≡ true
true_is_open v trail clause l all here holds = has-filter (λ m. not (is_false trail m)) clause l here (ap not not_false)
  where
    not_false : is_false trail l ≡ false
    not_false = elim (cases_Bool (is_false trail l)) [
      | inl e ↦ absurd (false≢true (sym (ap not holds) ∙ sym (negate-value v l) ∙ all (negate l) e))
      | inr e ↦ e
    ]

all_true_push : (v : ℕ → Bool) (trail : List Literal) (l : Literal) → AllTrue v trail → literal_value v l ≡ true → AllTrue v (trail ++ l ∷ [])
all_true_push v trail l all holds m h =
    elim (or_cases (has_literal trail m) _ (sym (has-push trail l m) ∙ h)) [
      | inl e ↦ all m e
      | inr e ↦ subst (λ (k : Literal). literal_value v k ≡ true) (sym (literal_eq-true m l e)) holds
    ]

taken_true : (v : ℕ → Bool) (trail : List Literal) (l : Literal) (b : Bool) → AllTrue v trail → literal_value v l ≡ true → AllTrue v (cond b trail (trail ++ l ∷ []))
taken_true v trail l true all holds = all
taken_true v trail l false all holds = all_true_push v trail l all holds

unit_true : (v : ℕ → Bool) (id : ℕ) (trail ls : List Literal) (m : Literal) → AllTrue v trail → has_literal ls m ≡ true → literal_value v m ≡ true → IsTrueOutcome v (unit_outcome id trail ls)
unit_true v id trail [] m all here holds = false≢true here
unit_true v id trail (l ∷ []) m all here holds =
    let same : m ≡ l = elim (or_cases (literal_eq m l) _ here) [ inl e ↦ literal_eq-true m l e | inr e ↦ absurd (false≢true e) ] in
    taken_true v trail l (has_literal trail l) all (subst (λ (k : Literal). literal_value v k ≡ true) same holds)
unit_true v id trail (l ∷ k ∷ ls) m all here holds = tt

clause_true : (v : ℕ → Bool) (id : ℕ) (trail : List Literal) (o : Option (List Literal)) → AllTrue v trail → IfSome o (λ clause. clause_value v clause ≡ true) → IsTrueOutcome v (clause_outcome id trail o)
clause_true v id trail None all holds = tt
clause_true v id trail (Some clause) all holds =
    let found = has_from_value v clause holds in
    unit_true v id trail (open_literals trail clause) found.0 all (true_is_open v trail clause found.0 all found.1 found.2) found.2

hint_true : (v : ℕ → Bool) (standing : Standing) (trail : List Literal) (h : Hint) → Models v standing → AllTrue v trail → IsTrueOutcome v (hint_outcome standing trail h)
hint_true v standing trail (hint.Unit id) holds all = clause_true v id trail (get standing id) all (holds id)
hint_true v standing trail (hint.Rat id) holds all = tt

then_true : (v : ℕ → Bool) (x : Outcome) (next : List Literal → Outcome) → IsTrueOutcome v x → ((trail : List Literal) → AllTrue v trail → IsTrueOutcome v (next trail)) → IsTrueOutcome v (and_then x next)
then_true v Conflict next now later = now
then_true v (Reached trail) next now later = later trail now
then_true v (Stopped r) next now later = now

-- from true literals, over true clauses, propagation comes to no conflict
pub propagate_true : (v : ℕ → Bool) (standing : Standing) → Models v standing → (hints : List Hint) (trail : List Literal) → AllTrue v trail → IsTrueOutcome v (propagate standing trail hints)
propagate_true v standing holds [] trail all = all
propagate_true v standing holds (h ∷ hs) trail all =
    then_true v (hint_outcome standing trail h) (λ more. propagate standing more hs) (hint_true v standing trail h holds all) (propagate_true v standing holds hs)

-- the negations of a false clause are true
negations_true : (v : ℕ → Bool) (clause : List Literal) → clause_value v clause ≡ false → AllTrue v (map negate clause)
negations_true v [] f l h = absurd (false≢true h)
negations_true v (m ∷ ms) f l h =
    let parts = or_parts (literal_value v m) _ f in
    elim (or_cases (literal_eq l (negate m)) _ h) [
      | inl e ↦ ap (literal_value v) (literal_eq-true l (negate m) e) ∙ negate-value v m ∙ ap not parts.0
      | inr e ↦ negations_true v ms parts.1 l e
    ]

-- reverse unit propagation shows a clause true
pub clause_follows : (v : ℕ → Bool) (standing : Standing) (clause : List Literal) (hints : List Hint) → Models v standing → propagate standing (map negate clause) hints ≡ Conflict → clause_value v clause ≡ true
clause_follows v standing clause hints holds conflict =
    elim (cases_Bool (clause_value v clause)) [
      | inl e ↦ e
      | inr e ↦ absurd (subst (IsTrueOutcome v) conflict (propagate_true v standing holds hints (map negate clause) (negations_true v clause e)))
    ]

pub accepted_sound : (db : Database) (line : Line) → IsAccepted db line → (v : ℕ → Bool) → Models v db.clauses → Models v (after db line).clauses
accepted_sound db (Add id clause hints) so v holds =
    each_insert (λ c. clause_value v c ≡ true) db.clauses id clause (clause_follows v db.clauses clause hints holds so.2) holds
accepted_sound db (Delete id ids) so v holds = each_remove_all (λ c. clause_value v c ≡ true) ids db.clauses holds

empty_refutes : (db : Database) (line : Line) → IsAccepted db line → adds_empty line ≡ true → (v : ℕ → Bool) → Models v db.clauses → ⊥
empty_refutes db (Add id [] hints) so adds v holds = false≢true (clause_follows v db.clauses [] hints holds so.2)
empty_refutes db (Add id (l ∷ ls) hints) so adds v holds = false≢true adds
empty_refutes db (Delete id ids) so adds v holds = false≢true adds

-- an accepted log that adds the empty clause leaves nothing that makes its database true
pub log_refutes : (lines : List Line) (db : Database) → IsAcceptedLog db lines → list_any adds_empty lines ≡ true → (v : ℕ → Bool) → Models v db.clauses → ⊥
log_refutes [] db so adds v holds = false≢true adds
log_refutes (line ∷ lines) db so adds v holds =
    elim (or_cases (adds_empty line) _ adds) [
      | inl e ↦ empty_refutes db line so.0 e v holds
      | inr e ↦ log_refutes lines (after db line) so.1 e v (accepted_sound db line so.0 v holds)
    ]

all_true : (v : ℕ → Bool) (cs : List (List Literal)) → clauses_value v cs ≡ true → All (λ c. clause_value v c ≡ true) cs
all_true v [] h = All-nil (λ c. clause_value v c ≡ true)
all_true v (c ∷ cs) h =
    let parts = and_parts (clause_value v c) _ h in All-cons (λ c. clause_value v c ≡ true) c cs parts.0 (all_true v cs parts.1)

-- an assignment that satisfies a formula makes its database true
pub models_formula : (v : ℕ → Bool) (p : Problem) → Satisfies v p.clauses → Models v (database_of p).clauses
models_formula v p h = each_numbered (λ c. clause_value v c ≡ true) p.clauses (all_true v p.clauses h)

pub refutation_sound : (p : Problem) (lines : List Line) → IsRefutation p lines → (v : ℕ → Bool) → Satisfies v p.clauses → ⊥
refutation_sound p lines so v h = log_refutes lines (database_of p) so.0 so.1 v (models_formula v p h)

pub ok_sound : (db : Database) (line : Line) (r : Result (Unit {0}) Refused) → r ≡ line_answer db line → OnOk r ((v : ℕ → Bool) → Models v db.clauses → Models v (after db line).clauses)
ok_sound db line (Ok x) e = accepted_sound db line (accepted_from_ok db line (ap is_ok (sym e)))
ok_sound db line (Err x) e = tt
