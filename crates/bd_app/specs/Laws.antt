-- What holds of every run whose words are taken and whose files have no fault, and of every text: there is an answer.
use Rattle.std.specs.Prelude.{◌≡◌, ◌⊎◌, false, ℕ, List, Option, Some, Result, is_some}
use Rattle.bd_bounded.specs.declared.answer.Bounded.{Bounded as BoundedAnswer}
use Rattle.bd_case.specs.Reads.{IsReading, IsTrailReading}
use Rattle.bd_cnf.specs.Problem.{Problem}
use Rattle.bd_completion.specs.declared.answer.Complete.{Complete}
use Rattle.bd_files.specs.Devices.{Held, Rose}
use Rattle.bd_model.specs.DesignView.{DesignView}
use Rattle.bd_model.specs.declared.case.Case.{Case}
use Rattle.bd_model.specs.declared.case.Judged.{Judged}
use Rattle.bd_model.specs.declared.case.Trail.{Trail}
use Rattle.bd_model.specs.declared.case.TrailJudged.{TrailJudged}
use Rattle.bd_proof_text.specs.declared.fault.Why.{Why}
use Rattle.bd_syntax.specs.Reading.{Fault}
use Rattle.bd_text.specs.declared.code.Code.{Code}
use Rattle.bd_typer.specs.Denotes.{DenotesCompleted}
use Rattle.bd_typer.specs.Faults.{FileFault}
use Rattle.bd_typer.specs.Joined.{JoinedView}
use Rattle.bd_typer.specs.declared.fault.Text.{Text}
use Rattle.bd_verify.specs.declared.verdict.Verdict.{Verdict}
use Rattle.bd_verify.specs.declared.verdict.Work.{Work}
use Rattle.bd_app.specs.Commands.{Question, check, replay, run, gen, recheck, bounded, retrace, complete, meaning_of, taken}
use Rattle.bd_app.specs.Files.{AreShort}
use Rattle.bd_app.specs.Meaning.{FilesSeen, Meaning}
use Rattle.bd_app.specs.Program.{IsRun, SinkSeen}
use Rattle.bd_app.specs.Verdicts.{MayGive, ended_by}
use Rattle.bd_app.specs.declared.answer.Ended.{Ended}
use Rattle.bd_app.specs.declared.answer.Ended.TheVariants.{Replayed, Ran, Proved, Bounded, Retraced, Completed, Memory}

-- ---- runs

-- one of the answers to the question
abbrev pub Answers : Question → Ended → Type 0
Answers (check q) e = (v : Verdict) × (e ≡ ended_by v) × MayGive (is_some q.inv) v
Answers (replay q) e = (judgement : Judged) × (e ≡ Replayed judgement)
Answers (run q) e = e ≡ Ran
Answers (gen q) e = (v : Verdict) × (e ≡ ended_by v) × MayGive false v
Answers (recheck q) e = (work : Work) × (e ≡ Proved work)
Answers (bounded q) e = (answer : BoundedAnswer) × (e ≡ Bounded answer)
Answers (retrace q) e = (judgement : TrailJudged) × (e ≡ Retraced judgement)
Answers (complete q) e = (answer : Complete) × (e ≡ Completed answer)

-- each file that the question names is held, none is too long, and no text and no proof has a fault
pub record AreFaultless (m : Meaning) (held : Held) : Type 0 where
  pub short : AreShort held m.files
  pub texts : (file : Text) (offset : ℕ) (code : Code) → ¬ m.IsTextFault held file offset code
  pub proof : (line column : ℕ) (why : Why) (cnf : Problem) → ¬ m.IsProofFault held line column why cnf

-- a run on these words ends with an answer to their question, or as memory runs out, where the files tell what they
-- hold, which has no fault, and where the count of faults rose neither of the files nor of the output
abbrev pub RunsAnswer : Type 0
RunsAnswer = (words : List (List ℕ)) (e : Ended) (files files' : FilesSeen) (out out' err err' : SinkSeen)
    → IsRun words e files files' out out' err err'
    → (q : Question) → taken words ≡ Some q
    → (held : Held) → files.held ≡ Some held → AreFaultless (meaning_of q) held
    → ¬ Rose files.faults files'.faults → ¬ Rose out.faults out'.faults
    → Answers q e ⊎ (e ≡ Memory)

-- ---- texts

-- each text is a case of the design, or has a first fault
abbrev pub CasesRead : Type 0
CasesRead = (d : DesignView) (source : List ℕ) → (r : Result Case Fault) × IsReading d source r

-- the same of trails
abbrev pub TrailsRead : Type 0
TrailsRead = (d : DesignView) (source : List ℕ) → (r : Result Trail Fault) × IsTrailReading d source r

-- a design's texts and that of a completion function denote a design and an abstraction, or have a first fault
abbrev pub CompletionsDenote : Type 0
CompletionsDenote = (pipe spec comp : List ℕ) (inv : Option (List ℕ))
    → (r : Result JoinedView FileFault) × DenotesCompleted pipe spec comp inv r

-- and no more than one of these
abbrev pub CompletionsDenoteOnce : Type 0
CompletionsDenoteOnce = (pipe spec comp : List ℕ) (inv : Option (List ℕ)) (r q : Result JoinedView FileFault)
    → DenotesCompleted pipe spec comp inv r → DenotesCompleted pipe spec comp inv q → r ≡ q
