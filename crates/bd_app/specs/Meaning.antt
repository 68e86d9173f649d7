-- What a command with its words means: which files it reads and saves, why one is refused, and what
-- its answers say; and what is left of the files after it.
use Rattle.std.specs.Prelude.{◌≡◌, ◌≢◌, ◌⊎◌, ◌≤◌, ℕ, List, [], ◌∷◌, ◌++◌, Option, Some, IfSome}
use Rattle.bd_model.specs.DesignView.{DesignView}
use Rattle.bd_cnf.specs.Problem.{Problem}
use Rattle.bd_files.specs.Devices.{Blame, Call, Held, Makes, Rose, saving}
use Rattle.bd_files.specs.declared.devices.FileCall.TheVariants as call
use Rattle.bd_proof_text.specs.declared.fault.Why.{Why}
use Rattle.bd_text.specs.declared.code.Code.{Code}
use Rattle.bd_text.specs.declared.code.Code.TheVariants.{TooLong}
use Rattle.bd_typer.specs.declared.fault.Text.{Text}
use Rattle.bd_verify.specs.declared.verdict.Verdict.{Verdict}
use Rattle.bd_app.specs.Answer.{SavesNothing}
use Rattle.bd_app.specs.Files.{AreSaved, AreSavedUpTo, AreShort, BlamesOneOf, BlamesSaveOf, File, IsEither, IsFirstLong, IsLong, KeepsAllBut, loads, most_bytes, saves}
use Rattle.bd_app.specs.Verdicts.{IsVerdict, ended_by, work_of}
use Rattle.bd_app.specs.Words.{Name}
use Rattle.bd_app.specs.declared.answer.Which.TheVariants.{Load, Save, Out}
use Rattle.bd_app.specs.declared.answer.Ended.{Ended}
use Rattle.bd_app.specs.declared.answer.Ended.TheVariants.{Correct, Wrong, Void, Undecided, Usage, Refused, Device, Memory}
use Rattle.bd_app.specs.declared.verdict.Asked.{Asked}

pub record Meaning : Type 1 where
  -- the files that are loaded, in this order
  pub files : List File
  -- where the formula and the proof of a verdict are saved
  pub cnf : Option Name
  pub lrat : Option Name
  -- the design that the question is on
  pub Asks : Held → DesignView → Type 0
  -- what is asked of it, where the answer is a verdict
  pub verdict : Option Asked
  -- the first fault of the texts, where no file is too long
  pub IsTextFault : Held → Text → ℕ → Code → Type 0
  -- the first fault of a proof over a formula, where the other texts have none
  pub IsProofFault : Held → ℕ → ℕ → Why → Problem → Type 0
  -- an answer that is no fault, and its report
  pub IsAnswer : Option Held → Ended → List ℕ → Type 0

-- the answer says this of the design that is asked about, with its report
pub record IsDesignAnswer (Asks : Held → DesignView → Type 0)
    (Says : DesignView → Ended → List ℕ → Type 0)
    (held : Option Held) (e : Ended) (report : List ℕ) : Type 0 where
  pub design : DesignView
  pub asks : IfSome held (λ h. Asks h design)
  pub says : Says design e report

-- ---- the order of refusals

-- a file is the first that is too long
pub record IsTooLong (held : Held) (files : List File) (file : Text) (offset : ℕ) (code : Code) :
    Type 0 where
  pub first : IsFirstLong held files file
  pub at_limit : offset ≡ most_bytes file
  pub too_long : code ≡ TooLong

-- why a file is refused: it is too long, or none is and a text has a fault
abbrev pub IsRefused : Meaning → Held → Text → ℕ → Code → Type 0
IsRefused m held file offset code =
    IsTooLong held m.files file offset code
    ⊎ (AreShort held m.files × m.IsTextFault held file offset code)

-- why a proof is refused: no file is too long, and it has this first fault
abbrev pub IsProofRefused : Meaning → Held → ℕ → ℕ → Why → Problem → Type 0
IsProofRefused m held line column why cnf =
    AreShort held m.files × m.IsProofFault held line column why cnf

-- no proof is read
abbrev pub no_proof : Held → ℕ → ℕ → Why → Problem → Type 0
no_proof held line column why cnf = ⊥

-- ---- verdicts

-- a verdict on the design
pub record IsVerdictFor (m : Meaning) (held : Option Held) (v : Verdict) : Type 0 where
  pub asked : Asked
  pub is_asked : m.verdict ≡ Some asked
  pub design : DesignView
  pub asks : IfSome held (λ h. m.Asks h design)
  pub is_verdict : IsVerdict design asked v

-- ---- effects on devices

-- files as a caller sees them: what they hold, how many faults came, the blame, and the calls
pub record FilesSeen : Type 0 where
  pub held : Option Held
  pub faults : ℕ
  pub blame : Option Blame
  pub calls : Option (List Call)

abbrev pub files_seen : {F : Type 0} → (F → Option Held) → (F → ℕ) → (F → Option Blame)
    → (F → Option (List Call)) → F → FilesSeen
files_seen held faults blame calls files = record {
  held = held files;
  faults = faults files;
  blame = blame files;
  calls = calls files;
}

-- ---- the calls on the files

-- just these calls were made
abbrev pub Called : FilesSeen → FilesSeen → List Call → Type 0
Called before after calls = Makes before.calls after.calls calls

-- the first of these calls were made, maybe none or all of them
pub record CalledFirst (before after : FilesSeen) (calls : List Call) : Type 0 where
  pub first : List Call
  pub rest : List Call
  pub order : calls ≡ first ++ rest
  pub called : Called before after first

-- files were loaded one after another up to this one: each before it is held, and isn't too long
pub record LoadedUpTo (before after : FilesSeen) (files : List File) (file : File) : Type 0 where
  pub first : List File
  pub rest : List File
  pub order : files ≡ first ++ file ∷ rest
  pub short : IfSome before.held (λ held. AreShort held first)
  pub called : Called before after (loads (first ++ file ∷ []))

-- after these calls a verdict's work was saved up to this call, which failed
pub record SavedUpTo (before after : FilesSeen) (loaded saved : List Call) : Type 0 where
  pub first : List Call
  pub name : Name
  pub bytes : List ℕ
  pub rest : List Call
  pub order : saved ≡ first ++ saving name bytes ∷ rest
  pub failed : after.blame ≡ Some (call.Save, name)
  pub called : Called before after (loaded ++ first ++ saving name bytes ∷ [])

-- the loads gave no bytes of a file: it is the last that was loaded
abbrev pub LoadsFail : FilesSeen → FilesSeen → List File → Ended → Type 0
LoadsFail before after files (Refused file offset code) =
    (name : Name) × IfSome before.held (λ held. IsLong held (file, name))
    × LoadedUpTo before after files (file, name)
LoadsFail before after files (Device Load) =
    (file : File) × (after.blame ≡ Some (call.Load, file.1)) × LoadedUpTo before after files file
LoadsFail before after files Memory = CalledFirst before after (loads files)
LoadsFail before after files _ = ⊥

-- the saves of an answer: those of a verdict's work
abbrev pub saves_of : Meaning → Ended → List Call
saves_of m (Correct c work) = saves m.cnf m.lrat work
saves_of m (Wrong k c work) = saves m.cnf m.lrat work
saves_of m (Void work) = saves m.cnf m.lrat work
saves_of m (Undecided asked work) = saves m.cnf m.lrat work
saves_of m _ = []

-- the calls of an answer: the loads in the order of the words, and then its saves
abbrev pub CalledAll : Meaning → FilesSeen → FilesSeen → Ended → Type 0
CalledAll m before after e = Called before after (loads m.files ++ saves_of m e)

-- the calls before an answer: all of them, or up to the one that its fault comes of
abbrev pub IsCalled : Meaning → FilesSeen → FilesSeen → Ended → Type 0
IsCalled m before after Usage = ⊥
IsCalled m before after (Refused file offset code) =
    LoadsFail before after m.files (Refused file offset code)
    ⊎ (IfSome before.held (λ held. AreShort held m.files) × Called before after (loads m.files))
IsCalled m before after (Device Load) = LoadsFail before after m.files (Device Load)
IsCalled m before after (Device Save) =
    (v : Verdict) × IsVerdictFor m before.held v
    × SavedUpTo before after (loads m.files) (saves m.cnf m.lrat (work_of v))
IsCalled m before after (Device Out) =
    (e : Ended) × (report : List ℕ) × m.IsAnswer before.held e report × CalledAll m before after e
IsCalled m before after Memory =
    LoadsFail before after m.files Memory
    ⊎ ((v : Verdict) × IsVerdictFor m before.held v
    × CalledFirst before after (loads m.files ++ saves m.cnf m.lrat (work_of v)))
IsCalled m before after e = CalledAll m before after e

-- the work of a verdict is saved as the words ask
abbrev pub IsSaved : Meaning → Option Held → Ended → Type 0
IsSaved m after e = (v : Verdict) → e ≡ ended_by v → AreSaved after m.cnf m.lrat (work_of v)

-- a save failed, and this stands of the work of a verdict that may come and is true
pub record IsSavedUpTo (m : Meaning) (before after : FilesSeen) : Type 0 where
  pub verdict : Verdict
  pub is_verdict : IsVerdictFor m before.held verdict
  pub up_to : AreSavedUpTo before.held after.held after.blame m.cnf m.lrat (work_of verdict)

-- what an answer leaves of the files
pub record Effects (m : Meaning) (before after : FilesSeen) (e : Ended) : Type 0 where
  -- a device's answer comes only of a call that failed, on a file that the words name for it
  pub load_rose : e ≡ Device Load → Rose before.faults after.faults
  pub load_blamed : e ≡ Device Load → BlamesOneOf after.blame m.files
  pub save_rose : e ≡ Device Save → Rose before.faults after.faults
  pub save_blamed : e ≡ Device Save → BlamesSaveOf after.blame m.cnf m.lrat
  -- a load or save that fails, and so takes the blame, isn't passed over
  pub else_keeps_blame : e ≢ Device Load → e ≢ Device Save → after.blame ≡ before.blame
  -- after a verdict all that the words ask for is saved; where a save failed, what stands; before
  -- other answers nothing; and never under another name
  pub saved : IsSaved m after.held e
  pub save_failed : e ≡ Device Save → IsSavedUpTo m before after
  pub others : KeepsAllBut before.held after.held (IsEither m.cnf m.lrat)
  pub held : SavesNothing e → after.held ≡ before.held
  pub never_falls : before.faults ≤ after.faults
  -- each file is loaded once and each part saved once, in the order of the words
  pub called : IsCalled m before after e
