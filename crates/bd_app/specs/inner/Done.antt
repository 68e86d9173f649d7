-- What the parts of a run say before anything is printed.
use Rattle.std.specs.Prelude.{◌≡◌, ◌⊎◌, ◌++◌, Bool, ℕ, List, [], ◌∷◌, codes, Option, Result, Ok, Err, IfSome, IfOk, IfErr}
use Rattle.bd_model.specs.DesignView.{DesignView}
use Rattle.bd_bounded.specs.Answer.{HasWork, Says}
use Rattle.bd_files.specs.Devices.{Held}
use Rattle.bd_verify.specs.declared.verdict.Work.{Work}
use Rattle.bd_proof_text.specs.ProofText.{fault}
use Rattle.bd_foreign.specs.Rechecked.{HasFault}
use Rattle.bd_proof_text.specs.Tokens.{place}
use Rattle.bd_app.specs.Recheck.{Proves}
use Rattle.bd_app.specs.Meaning.{Effects, FilesSeen, IsProofRefused, IsRefused, Meaning}
use Rattle.bd_app.specs.Sources.{AreRead, Sources}
use Rattle.bd_app.specs.Bounded.{shown_trail}
use Rattle.bd_app.specs.Texts.{IsTextOfIf, TextKind, case_kind, trail_kind}
use Rattle.bd_app.specs.Verdicts.{IsVerdict, shown_case}
use Rattle.bd_app.specs.declared.answer.Answer.{Answer}
use Rattle.bd_app.specs.declared.answer.Ended.{Ended}
use Rattle.bd_app.specs.declared.answer.Ended.TheVariants.{Proved}
use Rattle.bd_app.specs.declared.command.bounded.ShownRun.{ShownRun}
use Rattle.bd_app.specs.declared.fault.Fault.{Fault}
use Rattle.bd_app.specs.declared.fault.Fault.TheVariants.{Usage, Refused, BadText, Load, Save, Memory}
use Rattle.bd_app.specs.declared.verdict.Asked.{Asked}
use Rattle.bd_app.specs.declared.verdict.ShownVerdict.{ShownVerdict}
use Rattle.bd_app.specs.inner.Faults.{ended_of}

-- a fault that may come of a question
abbrev pub IsFault : Meaning → Option Held → Fault → Type 0
IsFault m held Usage = ⊥
IsFault m held (Refused file offset code) = IfSome held (λ h. IsRefused m h file offset code)
IsFault m held (BadText line column why cnf) =
    IfSome held (λ h. IsProofRefused m h line column why cnf)
IsFault m held Load = Unit {0}
IsFault m held Save = Unit {0}
IsFault m held Memory = Unit {0}

-- the answer to a question, with its report, and what it leaves of the files
pub record IsDone (m : Meaning) (before after : FilesSeen) (r : Result Answer Fault) : Type 0 where
  pub answer : IfOk r (λ a. m.IsAnswer before.held a.ended a.report.items)
  pub fault : IfErr r (IsFault m before.held)
  pub effects : Effects m before after (ended_of r)

-- ---- what is said of bytes

-- these sources are this design
abbrev pub AreDesign : Sources → DesignView → Type 0
AreDesign s d = AreRead s (Ok d)

-- why sources are no design
abbrev pub AreRefused : Sources → Fault → Type 0
AreRefused s (Refused file offset code) =
    AreRead s (Err (record { file = file; offset = offset; code = code }))
AreRefused s Memory = Unit {0}
AreRefused s _ = ⊥

-- why bytes are no such text on a design
abbrev pub IsTextRefused : {V : Type 0} → TextKind V → DesignView → List ℕ → Fault → Type 0
IsTextRefused k d bytes (Refused file offset code) =
    (file ≡ k.file) × k.IsReading d bytes (Err (record { offset = offset; code = code }))
IsTextRefused k d bytes Memory = Unit {0}
IsTextRefused k d bytes _ = ⊥

-- this is said of the text that the bytes are
pub record IsSaidOf {V : Type 0} (k : TextKind V) (Says : DesignView → V → Ended → List ℕ → Type 0)
    (d : DesignView) (bytes : List ℕ) (a : Answer) : Type 0 where
  pub text : V
  pub read : k.IsReading d bytes (Ok text)
  pub fits : k.Fits d text
  pub says : Says d text a.ended a.report.items

-- the text proves that the design is right, and the answer says so
pub record IsProvedBy (d : DesignView) (bytes : List ℕ) (a : Answer) : Type 0 where
  pub work : Work
  pub ended : a.ended ≡ Proved work
  pub proves : Proves work d bytes
  pub words : a.report.items ≡ codes "correct by proof" ++ 10 ∷ []

-- why bytes don't prove it
abbrev pub IsBadProof : DesignView → List ℕ → Fault → Type 0
IsBadProof d bytes (BadText line column why cnf) =
    HasFault d bytes (fault (place line column) why) cnf
IsBadProof d bytes Memory = Unit {0}
IsBadProof d bytes _ = ⊥

-- this is said of a text on a design, unless its bytes are refused
pub record OnText (Said : DesignView → List ℕ → Answer → Type 0)
    (IsTextRefused : DesignView → List ℕ → Fault → Type 0) (d : DesignView) (bytes : List ℕ)
    (r : Result Answer Fault) : Type 0 where
  pub said : IfOk r (Said d bytes)
  pub refused : IfErr r (IsTextRefused d bytes)

-- or those of the design
pub record OnSources (Said : DesignView → List ℕ → Answer → Type 0)
    (IsTextRefused : DesignView → List ℕ → Fault → Type 0) (s : Sources) (bytes : List ℕ)
    (r : Result Answer Fault) : Type 0 where
  pub said : IfOk r (λ a. (d : DesignView) × AreDesign s d × Said d bytes a)
  pub refused : IfErr r (λ e.
      AreRefused s e ⊎ ((d : DesignView) × AreDesign s d × IsTextRefused d bytes e))

-- this is said of the design of sources, unless they are refused
pub record OnDesign (Says : DesignView → Ended → List ℕ → Type 0) (s : Sources)
    (r : Result Answer Fault) : Type 0 where
  pub said : IfOk r (λ a. (d : DesignView) × AreDesign s d × Says d a.ended a.report.items)
  pub refused : IfErr r (AreRefused s)

-- ---- what is shown

-- a verdict on a design, and the text of the case that is shown with it
pub record IsShown (d : DesignView) (asked : Asked) (shows : Bool) (f : ShownVerdict) :
    Type 0 where
  pub verdict : IsVerdict d asked f.verdict
  pub case : IsTextOfIf case_kind d (shown_case shows f.verdict) f.case.items

-- the same of the design of sources
abbrev pub IsShownOf : Sources → Asked → Bool → ShownVerdict → Type 0
IsShownOf s asked shows f = (d : DesignView) × AreDesign s d × IsShown d asked shows f

-- an answer to a bounded run of a design, and the text of the trail that is shown with it
pub record IsShownRun (d : DesignView) (cycles budget : ℕ) (f : ShownRun) : Type 0 where
  pub says : Says d cycles f.answer
  pub work : HasWork d cycles budget f.answer
  pub trail : IsTextOfIf trail_kind d (shown_trail f.answer) f.trail.items
