-- A text that is read whole is an accepted log that adds the empty clause.
use Rattle.std.proofs.Common.{◌≡◌, ℕ, ◌+◌, Bool, true, false, cond, List, [], ◌∷◌, ◌++◌, Option, None, Some, Result, Ok, Err, is_ok, not, refl, sym, ap, ◌∙◌, subst}
use Rattle.std.specs.List.{list_any, position}
use Rattle.std.proofs.lemmas.Bool.{or_left, or_right}
use Rattle.std.proofs.lemmas.List.Folds.{list_any-append}
use Rattle.bd_cnf.specs.Problem.{Problem}
use Rattle.bd_lrat.specs.declared.line.Line.{Line}
use Rattle.bd_lrat.specs.declared.refused.Refused.{Refused}
use Rattle.bd_lrat.specs.Database.{Database, database_of, IsAccepted, after, line_answer}
use Rattle.bd_lrat.specs.Log.{IsAcceptedLog, IsRefutation, adds_empty, after_all}
use Rattle.bd_lrat.proofs.AnswersAccepted.{accepted_from_ok}
use Rattle.bd_lrat.proofs.Ends.{accepted-push, after_all-push}
use Rattle.bd_proof_text.specs.declared.fault.Fault.{Fault}
use Rattle.bd_proof_text.specs.declared.token.Place.{Place}
use Rattle.bd_proof_text.specs.declared.token.Token.{Token}
use Rattle.bd_proof_text.specs.ProofText.{Step, Passed, Accepted, Faulty, answered, bytes_step, judged, from_id, on_step, proof_from, proof_text, step, tokens_step, line_count}
use Rattle.bd_proof_text.specs.Tokens.{is_passed, is_proof_byte, lines, tokens_from}

-- a line that is taken is accepted on what stands
abbrev IsSound : Database → Step → Type 0
IsSound db Passed = Unit {0}
IsSound db (Accepted line) = IsAccepted db line
IsSound db (Faulty e) = Unit {0}

answered-sound : (db : Database) (first : Place) (line : Line) (r : Result (Unit {0}) Refused) → line_answer db line ≡ r → IsSound db (answered first line r)
answered-sound db first line (Ok done) e = accepted_from_ok db line (ap is_ok e)
answered-sound db first line (Err refusal) e = tt

judged-sound : (db : Database) (first : Place) (r : Result Line Fault) → IsSound db (judged db first r)
judged-sound db first (Ok line) = answered-sound db first line (line_answer db line) refl
judged-sound db first (Err e) = tt

tokens-sound : (db : Database) (ts : List Token) → IsSound db (tokens_step db ts)
tokens-sound db [] = tt
tokens-sound db (t ∷ ts) = judged-sound db t.place (from_id t ts)

bytes-sound : (db : Database) (number : ℕ) (text : List ℕ) (at : Option ℕ) → IsSound db (bytes_step db number text at)
bytes-sound db number text (Some at) = tt
bytes-sound db number text None = tokens-sound db (tokens_from number 1 text)

unless-passed : (db : Database) (s : Step) (b : Bool) → IsSound db s → IsSound db (cond b Passed s)
unless-passed db s true sound = tt
unless-passed db s false sound = sound

step-sound : (db : Database) (number : ℕ) (text : List ℕ) → IsSound db (step db number text)
step-sound db number text = unless-passed db _ (is_passed text) (bytes-sound db number text (position (λ b. not (is_proof_byte b)) text))

adds-last : (xs : List Line) (line : Line) → adds_empty line ≡ true → list_any adds_empty (xs ++ line ∷ []) ≡ true
adds-last xs line h = list_any-append adds_empty xs (line ∷ []) ∙ or_right (list_any adds_empty xs) _ (or_left (adds_empty line) false h)

-- what the lines left, read after some accepted log, come to
abbrev Refutes : Problem → ℕ → List (List ℕ) → List Line → Type 0
Refutes p last texts log =
    (db : Database) (before : List Line) (number : ℕ) → IsAcceptedLog (database_of p) before → after_all (database_of p) before ≡ db → proof_from last db before number texts ≡ Ok log
    → IsRefutation p log

module _ (p : Problem) (last : ℕ) (text : List ℕ) (texts : List (List ℕ)) (log : List Line) (others : Refutes p last texts log) (db : Database) (before : List Line) (number : ℕ)
    (accepted : IsAcceptedLog (database_of p) before) (stands : after_all (database_of p) before ≡ db) where
  with-line : (line : Line) → IsAccepted db line → IsAcceptedLog (database_of p) (before ++ line ∷ [])
  with-line line sound = accepted-push (database_of p) before line accepted (subst (λ d. IsAccepted d line) (sym stands) sound)

  abbrev unless_ended : Line → Bool → Result (List Line) Fault
  unless_ended line b = cond b (Ok (before ++ line ∷ [])) (proof_from last (after db line) (before ++ line ∷ []) (number + 1) texts)

  line-refutes : (line : Line) (b : Bool) → adds_empty line ≡ b → IsAccepted db line → unless_ended line b ≡ Ok log → IsRefutation p log
  line-refutes line true adds sound e =
      let is : before ++ line ∷ [] ≡ log = cc in subst (IsRefutation p) is (with-line line sound, adds-last before line adds)
  line-refutes line false adds sound e =
      others (after db line) (before ++ line ∷ []) (number + 1) (with-line line sound) (after_all-push (database_of p) before line ∙ ap (λ d. after d line) stands) e

  step-refutes : (s : Step) → IsSound db s → on_step s (proof_from last db before (number + 1) texts) (λ line. unless_ended line (adds_empty line)) (λ e. Err e) ≡ Ok log → IsRefutation p log
  step-refutes Passed sound e = others db before (number + 1) accepted stands e
  step-refutes (Accepted line) sound e = line-refutes line (adds_empty line) refl sound e
  step-refutes (Faulty f) sound e = cc

from-refutes : (p : Problem) (last : ℕ) (texts : List (List ℕ)) (log : List Line) → Refutes p last texts log
from-refutes p last [] log db before number accepted stands e = cc
from-refutes p last (text ∷ texts) log db before number accepted stands e =
    step-refutes p last text texts log (from-refutes p last texts log) db before number accepted stands (step db number text) (step-sound db number text) e

-- a proof over a formula is an accepted log that adds the empty clause
pub text-refutes : (p : Problem) (bytes : List ℕ) (log : List Line) → proof_text p bytes ≡ Ok log → IsRefutation p log
text-refutes p bytes log e = from-refutes p (line_count bytes) (lines bytes) log (database_of p) [] 1 tt refl e
