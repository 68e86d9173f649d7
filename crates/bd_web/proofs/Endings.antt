-- What the statuses of a run say.
use Rattle.std.proofs.Common.{◌≡◌, ◌∙◌, ℕ, false, List, Option, Some, sym, subst, arith}
use Rattle.bd_app.specs.Answer as answer
use Rattle.bd_app.specs.Check.{Check}
use Rattle.bd_app.specs.Commands.{check, taken}
use Rattle.bd_app.specs.Meaning.{FilesSeen}
use Rattle.bd_app.specs.Program.{ForDesign, SinkSeen}
use Rattle.bd_app.specs.Verdicts.{ended_by}
use Rattle.bd_app.specs.declared.answer.Ended.{Ended as AppEnded}
use Rattle.bd_app.specs.declared.answer.Ended.TheVariants as app
use Rattle.bd_model.specs.Right.{IsRight}
use Rattle.bd_model.specs.declared.case.Case.{Case}
use Rattle.bd_verify.specs.declared.verdict.Verdict.{Verdict}
use Rattle.bd_verify.specs.declared.verdict.Verdict.TheVariants as verdict
use Rattle.bd_verify.specs.declared.verdict.Work.{Work}
use Rattle.bd_web.specs.Ran.{Ends, EndsProgram, asks_companion}

-- status 0 is that of an answer with a report
reports : (e : AppEnded) → answer.status_of e ≡ 0 → answer.HasReport e
reports (app.Correct c work) zero = tt
reports (app.Wrong k c work) zero = tt
reports (app.Void work) zero = tt
reports (app.Undecided asked work) zero = tt
reports (app.Replayed j) zero = tt
reports app.Ran zero = tt
reports (app.Proved work) zero = tt
reports (app.Bounded a) zero = tt
reports (app.Retraced j) zero = tt
reports (app.Completed a) zero = tt
reports app.Usage zero = absurd (omega (arith, zero))
reports (app.Refused t offset code) zero = absurd (omega (arith, zero))
reports (app.BadText line column why cnf) zero = absurd (omega (arith, zero))
reports (app.Device w) zero = absurd (omega (arith, zero))
reports app.Memory zero = absurd (omega (arith, zero))

-- among verdicts, that of `correct`
is_correct : (v : Verdict) (e : AppEnded) → e ≡ ended_by v → answer.status_of e ≡ 0 → (c : Option Case) × (work : Work) × (e ≡ app.Correct c work)
is_correct (verdict.Correct c work) e is zero = (c, work, is)
is_correct (verdict.Wrong k c work) e is zero = absurd (omega (arith, subst (λ (x : AppEnded). answer.status_of x ≡ 0) is zero))
is_correct (verdict.Void work) e is zero = absurd (omega (arith, subst (λ (x : AppEnded). answer.status_of x ≡ 0) is zero))
is_correct (verdict.Undecided asked work) e is zero = absurd (omega (arith, subst (λ (x : AppEnded). answer.status_of x ≡ 0) is zero))

right_program : (words : List (List ℕ)) (status : ℕ) (files files' : FilesSeen) (out out' err err' : SinkSeen) → EndsProgram words status files files' out out' err err' → (q : Check) → taken words ≡ Some (check q) → status ≡ 0 → ForDesign files.held words IsRight
right_program words status files files' out out' err err' ends q asks zero =
    let z : answer.status_of ends.ended ≡ 0 = sym ends.status_is ∙ zero in
    let printed = (ends.run.answered (check q) asks).printed (reports ends.ended z) in
    let says = printed.3.says in
    let found = is_correct says.verdict ends.ended says.ended z in
    ends.run.headline.correct found.0 found.1 found.2

pub right : (words : List (List ℕ)) (status : ℕ) (files files' : FilesSeen) (out out' err err' : SinkSeen) → Ends words status files files' out out' err err' → (q : Check) → asks_companion words ≡ false → taken words ≡ Some (check q) → status ≡ 0 → ForDesign files.held words IsRight
right words status files files' out out' err err' ends q program =
    right_program words status files files' out out' err err' (ends.program program) q
