-- Questions on a design, or on a text on it, that save nothing and give no verdict.
use Rattle.std.specs.Prelude.{◌≡◌, ◌⊎◌, ℕ, List, Option, None, Ok, Err, IfSome}
use Rattle.bd_model.specs.DesignView.{DesignView}
use Rattle.bd_files.specs.Devices.{Held}
use Rattle.bd_text.specs.declared.code.Code.{Code}
use Rattle.bd_typer.specs.declared.fault.Text.{Text}
use Rattle.bd_app.specs.Files.{DesignNames, HoldsShort, TextNames, design_files, text_files}
use Rattle.bd_app.specs.Meaning.{IsDesignAnswer, Meaning, no_proof}
use Rattle.bd_app.specs.Sources.{HoldSources, IsDesign, IsDesignFault, TextSources}
use Rattle.bd_app.specs.Texts.{TextKind}
use Rattle.bd_app.specs.declared.answer.Ended.{Ended}

-- ---- on a design

-- a question on the design of which its answers say this
abbrev pub design_meaning : DesignNames → (DesignView → Ended → List ℕ → Type 0) → Meaning
design_meaning names Says = record {
  files = design_files names;
  cnf = None;
  lrat = None;
  Asks = λ held d. IsDesign (HoldSources held names) d;
  verdict = None;
  IsTextFault = λ held file offset code. IsDesignFault (HoldSources held names) file offset code;
  IsProofFault = no_proof;
  IsAnswer = IsDesignAnswer (λ held d. IsDesign (HoldSources held names) d) Says;
}

-- ---- on a text on a design

-- the files are a design and this text on it, which fits
pub record Reads {V : Type 0} (k : TextKind V) (names : TextNames) (held : Held) (d : DesignView)
    (x : V) : Type 0 where
  pub design : IsDesign (TextSources names held) d
  pub source : List ℕ
  pub given : HoldsShort held (k.file, names.text) source
  pub read : k.IsReading d source (Ok x)
  pub fits : k.Fits d x

-- they are a design, and the text on it isn't read, with its first fault
pub record IsFaultOf {V : Type 0} (k : TextKind V) (names : TextNames) (held : Held) (file : Text)
    (offset : ℕ) (code : Code) : Type 0 where
  pub is_file : file ≡ k.file
  pub view : DesignView
  pub design : IsDesign (TextSources names held) view
  pub source : List ℕ
  pub given : HoldsShort held (k.file, names.text) source
  pub fault : k.IsReading view source (Err (record { offset = offset; code = code }))

-- the answer says this of the text that the files are, with its report
pub record IsTextAnswer {V : Type 0} (k : TextKind V) (names : TextNames)
    (Says : DesignView → V → Ended → List ℕ → Type 0)
    (held : Option Held) (e : Ended) (report : List ℕ) : Type 0 where
  pub design : DesignView
  pub text : V
  pub reads : IfSome held (λ h. Reads k names h design text)
  pub says : Says design text e report

-- a question on the text of which its answers say this
abbrev pub text_meaning : {V : Type 0} → TextKind V → TextNames
    → (DesignView → V → Ended → List ℕ → Type 0) → Meaning
text_meaning k names Says = record {
  files = text_files k.file names;
  cnf = None;
  lrat = None;
  Asks = λ held d. IsDesign (TextSources names held) d;
  verdict = None;
  IsTextFault = λ held file offset code.
      IsDesignFault (TextSources names held) file offset code
      ⊎ IsFaultOf k names held file offset code;
  IsProofFault = no_proof;
  IsAnswer = IsTextAnswer k names Says;
}
