-- The answer to a line is Ok exactly where the line is accepted.
use Rattle.std.proofs.Common.{◌≡◌, ℕ, ◌+◌, ◌^◌, ◌<◌, ◌≤◌, Bool, true, false, cond, List, [], ◌∷◌, Option, None, Some, Result, Ok, Err, is_ok, IsOk, ◌↔◌, map, leb, ltb, refl, sym, ap, ◌∙◌, arith, inl, inr}
use Rattle.std.proofs.lemmas.Bool.{false≢true, lt-leb, leb-false, le-ltb, ltb-false, cases_Bool}
use Rattle.std.proofs.lemmas.List.Elements.{All-nil, All-cons, All-head, All-tail, All-weaker}
use Rattle.bd_cnf.specs.Literal.{Literal, negate}
use Rattle.bd_cnf.specs.Clause.{IsWithin}
use Rattle.bd_lrat.specs.declared.line.Hint.{Hint}
use Rattle.bd_lrat.specs.declared.line.Line.{Line}
use Rattle.bd_lrat.specs.declared.line.Line.TheVariants.{Add, Delete}
use Rattle.bd_lrat.specs.declared.refused.Refused.{Refused}
use Rattle.bd_lrat.specs.declared.refused.Refused.TheVariants as refused
use Rattle.bd_cnf.specs.Standing.{Standing, IsBelow}
use Rattle.bd_lrat.specs.Propagation.{Outcome, Conflict, Reached, Stopped, propagate}
use Rattle.bd_lrat.specs.Database.{Database, IsAccepted, outcome_answer, variable_past, hints_answer, addition_answer, line_answer}

-- no variable is past, so each is within
pub within_from_past : (vars : ℕ) (c : List Literal) → variable_past vars c ≡ None → IsWithin vars c
within_from_past vars [] h = All-nil (λ (l : Literal). l.var ≤ vars)
within_from_past vars (l ∷ ls) h =
    elim (cases_Bool (ltb vars l.var)) [
      | inl e ↦ let bad : Some l.var ≡ None = sym (ap (λ b. cond b (Some l.var) (variable_past vars ls)) e) ∙ h in cc
      | inr e ↦
          let rest : variable_past vars ls ≡ None = sym (ap (λ b. cond b (Some l.var) (variable_past vars ls)) e) ∙ h in
          All-cons (λ (m : Literal). m.var ≤ vars) l ls (ltb-false vars l.var e) (within_from_past vars ls rest)
    ]

pub past_from_within : (vars : ℕ) (c : List Literal) → IsWithin vars c → variable_past vars c ≡ None
past_from_within vars [] h = refl
past_from_within vars (l ∷ ls) h =
    let P : Literal → Type 0 = λ m. m.var ≤ vars in
    ap (λ b. cond b (Some l.var) (variable_past vars ls)) (le-ltb vars l.var (All-head P l ls h)) ∙ past_from_within vars ls (All-tail P l ls h)

pub below_from_within : (vars : ℕ) (c : List Literal) → IsWithin vars c → IsBelow (vars + 1) c
below_from_within vars c h = All-weaker (λ (l : Literal). l.var ≤ vars) (λ l. l.var < vars + 1) (λ l k. omega arith) c h

ok_of_cond : (b : Bool) (r : Refused) (x : Result (Unit {0}) Refused) → IsOk (cond b (Err r) x) → (b ≡ false) × IsOk x
ok_of_cond true r x h = absurd (false≢true h)
ok_of_cond false r x h = (refl, h)

ok_of_outcome : (x : Outcome) → IsOk (outcome_answer x) → x ≡ Conflict
ok_of_outcome Conflict h = refl
ok_of_outcome (Reached trail) h = absurd (false≢true h)
ok_of_outcome (Stopped r) h = absurd (false≢true h)

ok_of_hints : (standing : Standing) (clause : List Literal) (hints : List Hint) (o : Option ℕ) → IsOk (hints_answer standing clause hints o) → (o ≡ None) × (propagate standing (map negate clause) hints ≡ Conflict)
ok_of_hints standing clause hints (Some var) h = absurd (false≢true h)
ok_of_hints standing clause hints None h = (refl, ok_of_outcome (propagate standing (map negate clause) hints) h)

pub accepted_from_ok : (db : Database) (line : Line) → IsOk (line_answer db line) → IsAccepted db line
accepted_from_ok db (Add id clause hints) h =
    let one = ok_of_cond (leb id db.last) refused.NotRising _ h in
    let two = ok_of_hints db.clauses clause hints (variable_past db.vars clause) one.1 in
    (leb-false id db.last one.0, within_from_past db.vars clause two.0, two.1)
accepted_from_ok db (Delete id ids) h = tt

pub answer_from_accepted : (db : Database) (line : Line) → IsAccepted db line → line_answer db line ≡ Ok tt
answer_from_accepted db (Add id clause hints) (higher, within, conflict) =
    ap (λ b. cond b (Err refused.NotRising) (hints_answer db.clauses clause hints (variable_past db.vars clause))) (lt-leb id db.last higher)
    ∙ ap (hints_answer db.clauses clause hints) (past_from_within db.vars clause within)
    ∙ ap outcome_answer conflict
answer_from_accepted db (Delete id ids) h = refl

pub ok_from_accepted : (db : Database) (line : Line) → IsAccepted db line → IsOk (line_answer db line)
ok_from_accepted db line h = ap is_ok (answer_from_accepted db line h)

pub accepted_is_ok : (db : Database) (line : Line) (r : Result (Unit {0}) Refused) → r ≡ line_answer db line → IsOk r ↔ IsAccepted db line
accepted_is_ok db line r e = (
  λ ok. accepted_from_ok db line (ap is_ok (sym e) ∙ ok),
  λ so. ap is_ok e ∙ ok_from_accepted db line so,
)

-- the answer to the parts of a line is that to the line
pub addition_is_line : (db : Database) (id : ℕ) (clause clause' : List Literal) (hints hints' : List Hint) (line : Line) → clause ≡ clause' → hints ≡ hints' → line ≡ Add id clause' hints' → addition_answer db id clause hints ≡ line_answer db line
addition_is_line db id clause clause' hints hints' line e f g =
    ap (λ (c : List Literal). addition_answer db id c hints) e ∙ ap (addition_answer db id clause') f ∙ ap (line_answer db) (sym g)

-- where variables are few enough, each literal within them can be packed
pub below_packable : (vars : ℕ) (c : List Literal) → vars < 2 ^ 31 → IsWithin vars c → IsBelow (2 ^ 31) c
below_packable vars c few h = All-weaker (λ (l : Literal). l.var ≤ vars) (λ l. l.var < 2 ^ 31) (λ l k. omega (arith, few)) c h
