-- A log is accepted exactly where no line of it is the first that isn't.
use Rattle.std.proofs.Common.{◌≡◌, ◌↔◌, ℕ, ◌+◌, ◌<◌, Bool, true, false, ◌&&◌, cond, List, [], ◌∷◌, Option, None, Some, is_none, is_some, not, is_ok, length, get_or, drop, refl, sym, ap, ◌∙◌, inl, inr}
use Rattle.std.specs.List.{list_any}
use Rattle.std.proofs.lemmas.Bool.{false≢true, cases_Bool, and_parts, and_from}
use Rattle.std.proofs.lemmas.List.{drop_more}
use Rattle.bd_cnf.specs.Problem.{Problem}
use Rattle.bd_lrat.specs.declared.line.Line.{Line}
use Rattle.bd_lrat.specs.Database.{Database, database_of, IsAccepted, after, line_answer}
use Rattle.bd_lrat.specs.Log.{IsAcceptedLog, IsRefutation, adds_empty, refused_from}
use Rattle.bd_lrat.proofs.AnswersAccepted.{accepted_from_ok, answer_from_accepted}

-- an accepted line is passed
pub accepted_step : (n : ℕ) (db : Database) (lines : List Line) (i : ℕ) (line : Line) → i < length lines → line ≡ get_or lines i line → IsAccepted db line → refused_from n db (drop i lines) ≡ refused_from (n + 1) (after db line) (drop (i + 1) lines)
accepted_step n db lines i line lt is accepted =
    ap (refused_from n db) (drop_more lines i line lt ∙ ap (λ (y : Line). y ∷ drop (i + 1) lines) (sym is))
    ∙ ap (λ r. cond (is_ok r) (refused_from (n + 1) (after db line) (drop (i + 1) lines)) (Some n)) (answer_from_accepted db line accepted)

pub accepted_from_none : (n : ℕ) (db : Database) (lines : List Line) → is_none (refused_from n db lines) ≡ true → IsAcceptedLog db lines
accepted_from_none n db [] h = tt
accepted_from_none n db (line ∷ lines) h =
    elim (cases_Bool (is_ok (line_answer db line))) [
      | inl e ↦ (accepted_from_ok db line e, accepted_from_none (n + 1) (after db line) lines (sym (ap (λ b. is_none (cond b (refused_from (n + 1) (after db line) lines) (Some n))) e) ∙ h))
      | inr e ↦ absurd (false≢true (sym (ap (λ b. is_none (cond b (refused_from (n + 1) (after db line) lines) (Some n))) e) ∙ h))
    ]

pub none_from_accepted : (n : ℕ) (db : Database) (lines : List Line) → IsAcceptedLog db lines → is_none (refused_from n db lines) ≡ true
none_from_accepted n db [] all = refl
none_from_accepted n db (line ∷ lines) all =
    ap (λ r. is_none (cond (is_ok r) (refused_from (n + 1) (after db line) lines) (Some n))) (answer_from_accepted db line all.0) ∙ none_from_accepted (n + 1) (after db line) lines all.1

pub none_from_not_some : (o : Option ℕ) (b : Bool) → is_some o ≡ not b → b ≡ is_none o
none_from_not_some None true e = refl
none_from_not_some None false e = absurd (false≢true e)
none_from_not_some (Some n) true e = absurd (false≢true (sym e))
none_from_not_some (Some n) false e = refl

-- no line is refused, and some line adds the empty clause
pub refutation_is : (p : Problem) (lines : List Line) (answer : Bool) → answer ≡ (is_none (refused_from 1 (database_of p) lines) && list_any adds_empty lines) → (answer ≡ true) ↔ IsRefutation p lines
refutation_is p lines answer e = (
  λ h. let parts = and_parts (is_none (refused_from 1 (database_of p) lines)) _ (sym e ∙ h) in (accepted_from_none 1 (database_of p) lines parts.0, parts.1),
  λ is. e ∙ and_from _ _ (none_from_accepted 1 (database_of p) lines is.0) is.1,
)
