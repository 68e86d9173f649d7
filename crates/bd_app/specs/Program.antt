-- What a run of the program does with the words of its command line, its files and its two streams.
use Rattle.std.specs.Prelude.{◌≡◌, ◌≢◌, ◌≤◌, ◌⊎◌, ℕ, true, List, Option, Some, None, IfSome}
use Rattle.bd_model.specs.DesignView.{DesignView}
use Rattle.bd_model.specs.Fits.{Fits, TrailFits}
use Rattle.bd_model.specs.Conditions.{IsJudged, JudgedBy, SomeCaseMeetsInvariant}
use Rattle.bd_model.specs.Right.{Agrees, BoundedRight, IsRight, RightBy}
use Rattle.bd_model.specs.TrailJudged.{IsTrailJudged}
use Rattle.bd_model.specs.declared.case.Case.{Case}
use Rattle.bd_model.specs.declared.case.Condition.{Condition}
use Rattle.bd_model.specs.declared.case.Judged.TheVariants.{Broken, Holds}
use Rattle.bd_model.specs.declared.case.Trail.{Trail}
use Rattle.bd_model.specs.declared.case.TrailJudged.TheVariants as trail
use Rattle.bd_bounded.specs.Answer.{HasWork as HasBoundedWork}
use Rattle.bd_bounded.specs.declared.answer.Bounded.{Bounded as BoundedAnswer}
use Rattle.bd_bounded.specs.declared.answer.Bounded.TheVariants as run
use Rattle.bd_model.specs.Abstraction.{AbstractionView}
use Rattle.bd_completion.specs.Answer.{HasWork as HasWorkBy}
use Rattle.bd_completion.specs.declared.answer.Complete.{Complete}
use Rattle.bd_completion.specs.declared.answer.Complete.TheVariants as found
use Rattle.bd_goal.specs.Laws.{Differs}
use Rattle.bd_cnf.specs.Problem.{Problem}
use Rattle.bd_files.specs.Devices.{Held, Rose, Appends, AppendsPrefix, Counts, PutsOrFaults}
use Rattle.bd_files.specs.Pieces.{PutsInPieces}
use Rattle.bd_proof_text.specs.declared.fault.Why.{Why}
use Rattle.bd_text.specs.declared.code.Code.{Code}
use Rattle.bd_typer.specs.declared.fault.Text.{Text}
use Rattle.bd_verify.specs.Verdict.{HasWork}
use Rattle.bd_verify.specs.declared.verdict.Question.TheVariants.{Breaks}
use Rattle.bd_verify.specs.declared.verdict.Verdict.{Verdict}
use Rattle.bd_verify.specs.declared.verdict.Work.{Work}
use Rattle.bd_app.specs.Answer.{HasReport, fault_line_of}
use Rattle.bd_app.specs.Bounded.{BoundedRun, bounded_meaning}
use Rattle.bd_app.specs.Commands.{Question, bounded, complete, meaning_of, taken}
use Rattle.bd_app.specs.Complete.{Completion}
use Rattle.bd_app.specs.Completions.{CompletesTo, abstraction_by}
use Rattle.bd_app.specs.Meaning.{CalledAll, Effects, FilesSeen, IsProofRefused, IsRefused, IsSaved, Meaning}
use Rattle.bd_app.specs.Pieces.{line_pieces_of}
use Rattle.bd_app.specs.Verdicts.{MayGive, ended_by}
use Rattle.bd_app.specs.declared.answer.Which.TheVariants.{Out}
use Rattle.bd_app.specs.declared.answer.Ended.{Ended}
use Rattle.bd_app.specs.declared.answer.Ended.TheVariants.{Correct, Wrong, Void, Undecided, Proved, Bounded, Completed, Usage, Refused, BadText, Device, Memory}
use Rattle.bd_app.specs.declared.verdict.Asked.{Asked}

-- a sink as a caller sees it
pub record SinkSeen : Type 0 where
  pub written : Option (List ℕ)
  pub faults : ℕ
  pub puts : Option ℕ

abbrev pub sink_seen : {S : Type 0}
    → (S → Option (List ℕ)) → (S → ℕ) → (S → Option ℕ) → S → SinkSeen
sink_seen written faults puts sink =
    record { written = written sink; faults = faults sink; puts = puts sink }

-- ---- the headline

-- the words ask a question on a design of which this holds
abbrev pub ForDesign : Option Held → List (List ℕ) → (DesignView → Type 0) → Type 0
ForDesign held words P =
    (q : Question) × (taken words ≡ Some q)
    × IfSome held (λ h. (d : DesignView) × (meaning_of q).Asks h d × P d)

-- they ask for a verdict on a design, and this holds of what is asked and of the design
abbrev pub ForVerdict : Option Held → List (List ℕ) → (Asked → DesignView → Type 0) → Type 0
ForVerdict held words P =
    (q : Question) × (taken words ≡ Some q)
    × (asked : Asked) × ((meaning_of q).verdict ≡ Some asked)
    × IfSome held (λ h. (d : DesignView) × (meaning_of q).Asks h d × P asked d)

-- they ask for a bounded run, and this holds of it and of the design
abbrev pub ForBounded : Option Held → List (List ℕ) → (BoundedRun → DesignView → Type 0) → Type 0
ForBounded held words P =
    (q : BoundedRun) × (taken words ≡ Some (bounded q))
    × IfSome held (λ h. (d : DesignView) × (bounded_meaning q).Asks h d × P q d)

-- they ask about a completion function, and this holds of it, of the design and of the abstraction that is given
abbrev pub ForCompletion :
    Option Held → List (List ℕ) → (Completion → DesignView → AbstractionView → Type 0) → Type 0
ForCompletion held words P =
    (q : Completion) × (taken words ≡ Some (complete q))
    × IfSome held (λ h. (d : DesignView) × (abs : AbstractionView)
    × CompletesTo q.names h d abs × P q d abs)

-- what the verdict that a run answers says of the design: under every interpretation, from every
-- state that meets the invariant, and for every list of inputs
pub record Headline (held : Option Held) (words : List (List ℕ)) (e : Ended) : Type 0 where
  pub correct : (c : Option Case) (work : Work) → e ≡ Correct c work → ForDesign held words IsRight
  pub wrong : (k : Condition) (c : Case) (work : Work) → e ≡ Wrong k c work →
      ForDesign held words (λ d. Fits d c × IsJudged d c (Broken k))
  pub void : (work : Work) → e ≡ Void work →
      ForDesign held words (λ d. ¬ SomeCaseMeetsInvariant d)
  pub proved : (work : Work) → e ≡ Proved work → ForDesign held words IsRight
  -- bounded runs, where the invariant of the design is its start
  pub kept : (work : Work) → e ≡ Bounded (run.Kept work) →
      ForBounded held words (λ q d. BoundedRight d q.cycles)
  pub broken : (cycle : ℕ) (t : Trail) (work : Work) → e ≡ Bounded (run.Broken cycle t work) →
      ForBounded held words (λ q d. TrailFits d t × IsTrailJudged d t (trail.Broken cycle))
  -- their formula is the one that is kept of the question, and their log that of an honest solver
  pub bounded_work : (answer : BoundedAnswer) → e ≡ Bounded answer →
      ForBounded held words (λ q d. HasBoundedWork d q.cycles q.budget answer)
  -- the same by a completion function in the place of flushing
  pub right_by : (work : Work) → e ≡ Completed (found.Right work) →
      ForCompletion held words (λ q d abs. RightBy d (abstraction_by d abs))
  pub wrong_by : (k : Condition) (c : Case) (work : Work) → e ≡ Completed (found.Wrong k c work) →
      ForCompletion held words (λ q d abs. Fits d c × JudgedBy d (abstraction_by d abs) c (Broken k))
  -- it agrees with flushing in each state that meets the invariant, or this case tells the two apart
  pub agrees : (work : Work) → e ≡ Completed (found.Agree work) →
      ForCompletion held words (λ q d abs. Agrees d (abstraction_by d abs))
  pub differs : (c : Case) (work : Work) → e ≡ Completed (found.Differ c work) →
      ForCompletion held words (λ q d abs. Fits d c × Differs d (abstraction_by d abs) c)
  pub completion_work : (answer : Complete) → e ≡ Completed answer →
      ForCompletion held words (λ q d abs. HasWorkBy d abs q.agree q.budget answer)
  -- a case that is carried by a correct verdict shows that some state meets the invariant
  pub holds : (c : Case) (work : Work) → e ≡ Correct (Some c) work →
      ForDesign held words (λ d. Fits d c × IsJudged d c Holds)
  pub undecided : (work : Work) → e ≡ Undecided Breaks work →
      ForVerdict held words (λ asked d. asked.given ≡ true → SomeCaseMeetsInvariant d)
  -- it is one that may come with an invariant, or without
  pub may_give : (v : Verdict) → e ≡ ended_by v →
      ForVerdict held words (λ asked d. MayGive asked.given v)
  -- its formula is the one that is kept of the question that gave it, in the mode that is asked for,
  -- and its log is that of an honest solver
  pub work : (v : Verdict) → e ≡ ended_by v →
      ForVerdict held words (λ asked d. HasWork d asked.mode asked.budget v)

-- ---- a run

-- the answer to a question, what was printed of it, and what is left of the files
pub record IsAnswered (m : Meaning) (e : Ended) (files files' : FilesSeen) (out out' : SinkSeen) :
    Type 0 where
  pub refused : (file : Text) (offset : ℕ) (code : Code) → e ≡ Refused file offset code →
      IfSome files.held (λ held. IsRefused m held file offset code)
  pub bad_text : (line column : ℕ) (why : Why) (cnf : Problem) → e ≡ BadText line column why cnf →
      IfSome files.held (λ held. IsProofRefused m held line column why cnf)
  pub printed : HasReport e → (report : List ℕ)
      × Appends out.written out'.written report × Counts out.puts out'.puts 1
      × m.IsAnswer files.held e report
  -- where the output failed, a prefix of the report of an answer that is true went out, after what
  -- that answer saves
  pub cut : e ≡ Device Out → (a : Ended) × (report : List ℕ)
      × AppendsPrefix out.written out'.written report × Counts out.puts out'.puts 1
      × m.IsAnswer files.held a report × IsSaved m files'.held a × CalledAll m files files' a
  pub effects : Effects m files files' e

-- a run on these words that ends with this answer
pub record IsRun (words : List (List ℕ)) (e : Ended)
    (files files' : FilesSeen) (out out' err err' : SinkSeen) : Type 0 where
  pub headline : Headline files.held words e
  -- words that aren't taken; they load nothing
  pub usage_only : e ≡ Usage → taken words ≡ None
  pub usage : taken words ≡ None → (e ≡ Usage) ⊎ (e ≡ Memory)
  pub untouched : taken words ≡ None → files' ≡ files
  -- words that ask a question
  pub answered : (q : Question) → taken words ≡ Some q →
      IsAnswered (meaning_of q) e files files' out out'
  -- the two streams
  pub out_rose : e ≡ Device Out → Rose out.faults out'.faults
  pub silent : ¬ HasReport e → e ≢ Device Out → out' ≡ out
  pub line : PutsOrFaults (λ (sink : SinkSeen). sink.written) (λ (sink : SinkSeen). sink.faults)
      err err' (fault_line_of e)
  -- each of its pieces by one put, up to the first put that failed
  pub line_puts : PutsInPieces (λ (sink : SinkSeen). sink.written) (λ (sink : SinkSeen). sink.faults)
      (λ (sink : SinkSeen). sink.puts) err err' (fault_line_of e) (line_pieces_of e)
  pub no_line : HasReport e → err' ≡ err
  -- the counts of faults
  pub files_never_fall : files.faults ≤ files'.faults
  pub out_never_falls : out.faults ≤ out'.faults
  pub err_never_falls : err.faults ≤ err'.faults
