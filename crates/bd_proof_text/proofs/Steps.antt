-- Steps over lines, as they are taken one after another.
use Rattle.std.proofs.Common.{◌≡◌, ℕ, ◌+◌, Bool, true, false, not, cond, List, [], ◌∷◌, ◌++◌, Option, Result, Ok, Err, refl, sym, ap, ◌∙◌, subst}
use Rattle.std.specs.List.{position}
use Rattle.bd_lrat.specs.declared.line.Line.{Line}
use Rattle.bd_lrat.specs.Database.{Database, IsAccepted, after, line_answer}
use Rattle.bd_lrat.specs.Log.{adds_empty}
use Rattle.bd_lrat.proofs.AnswersAccepted.{answer_from_accepted}
use Rattle.bd_proof_text.specs.declared.fault.Fault.{Fault}
use Rattle.bd_proof_text.specs.declared.fault.ReadFault.{ReadFault}
use Rattle.bd_proof_text.specs.declared.fault.ReadFault.TheVariants as read
use Rattle.bd_proof_text.specs.declared.reading.Reader.{Reader}
use Rattle.bd_proof_text.specs.declared.token.Token.{Token}
use Rattle.bd_proof_text.specs.ProofText.{Fails, Step, Passed, Accepted, Faulty, answered, bytes_step, from_id, judged, on_step, proof_from, step, tokens_step}
use Rattle.bd_proof_text.specs.Tokens.{is_passed, is_proof_byte}
use Rattle.bd_proof_text.specs.inner.Steps.{Adds, Refuses, Takes}

-- ---- one line

-- a line that is read
step-read : (db : Database) (first : Token) (ts tokens : List Token) (r : Result Line Fault) → tokens ≡ first ∷ ts → from_id first ts ≡ r → tokens_step db tokens ≡ judged db first.place r
step-read db first ts tokens r e h = ap (tokens_step db) e ∙ ap (judged db first.place) h

-- it is accepted
pub takes-accepted : (old new : Reader) (first : Token) (ts tokens : List Token) (line : Line) → tokens ≡ first ∷ ts → from_id first ts ≡ Ok line → IsAccepted old.checker line → Adds line old new
    → Takes (tokens_step old.checker tokens) old new (adds_empty line)
takes-accepted old new first ts tokens line e h accepted adds =
    let is : tokens_step old.checker tokens ≡ Accepted line = step-read old.checker first ts tokens (Ok line) e h ∙ ap (answered first.place line) (answer_from_accepted old.checker line accepted) in
    subst (λ s. Takes s old new (adds_empty line)) (sym is) (adds.checker, adds.log, refl)

-- ---- the lines of a text

-- a line is taken, and the proof ends, or goes on with the lines after it
pub proof-step : (last : ℕ) (old new : Reader) (number : ℕ) (text : List ℕ) (texts : List (List ℕ)) (ends : Bool) → Takes (step old.checker number text) old new ends
    → proof_from last old.checker old.log number (text ∷ texts) ≡ cond ends (Ok new.log) (proof_from last new.checker new.log (number + 1) texts)
proof-step last old new number text texts ends = by (step old.checker number text)
  where
    by : (s : Step) → Takes s old new ends
        → on_step s (proof_from last old.checker old.log (number + 1) texts)
        (λ line. cond (adds_empty line) (Ok (old.log ++ line ∷ [])) (proof_from last (after old.checker line) (old.log ++ line ∷ []) (number + 1) texts)) (λ e. Err e)
        ≡ cond ends (Ok new.log) (proof_from last new.checker new.log (number + 1) texts)
    by Passed (checker, log, end) = λ i. cond (sym end i) (Ok new.log) (proof_from last (sym checker i) (sym log i) (number + 1) texts)
    by (Accepted line) (checker, log, end) = λ i. cond (sym end i) (Ok (sym log i)) (proof_from last (sym checker i) (sym log i) (number + 1) texts)
    by (Faulty e) h = absurd h
