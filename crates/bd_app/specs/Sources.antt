-- What texts are read from files, and what they denote.
use Rattle.std.specs.Prelude.{◌≡◌, ℕ, List, Option, Some, None, Result, Ok, Err}
use Rattle.bd_model.specs.DesignView.{DesignView}
use Rattle.bd_files.specs.Devices.{Held}
use Rattle.bd_text.specs.declared.code.Code.{Code}
use Rattle.bd_typer.specs.Denotes.{DenotesWith, premise_file}
use Rattle.bd_typer.specs.Faults.{FileFault}
use Rattle.bd_typer.specs.declared.fault.Text.{Text}
use Rattle.bd_typer.specs.declared.fault.Text.TheVariants.{Pipe, Spec}
use Rattle.bd_typer.specs.declared.premise.Premise.{Premise}
use Rattle.bd_app.specs.Words.{Name}
use Rattle.bd_app.specs.Files.{DesignNames, HoldsShort, TextNames}

-- the bytes of the files of a design
pub record Sources : Type 0 where
  pub pipe : List ℕ
  pub spec : List ℕ
  pub premise : Premise
  pub third : Option (List ℕ)

abbrev pub HoldsShortIf : Held → Text → Option Name → Option (List ℕ) → Type 0
HoldsShortIf held text None None = Unit {0}
HoldsShortIf held text None (Some bytes) = ⊥
HoldsShortIf held text (Some name) None = ⊥
HoldsShortIf held text (Some name) (Some bytes) = HoldsShort held (text, name) bytes

pub record HoldSources (held : Held) (names : DesignNames) (sources : Sources) : Type 0 where
  pub pipe_held : HoldsShort held (Pipe, names.pipe) sources.pipe
  pub spec_held : HoldsShort held (Spec, names.spec) sources.spec
  pub same_premise : sources.premise ≡ names.premise
  pub third_held : HoldsShortIf held (premise_file names.premise) names.third sources.third

-- those of a design on which there is a text
abbrev pub TextSources : TextNames → Held → Sources → Type 0
TextSources names held = HoldSources held names.design

-- these sources are this design, or have this first fault
abbrev pub AreRead : Sources → Result DesignView FileFault → Type 0
AreRead s result = DenotesWith s.premise s.pipe s.spec s.third result

-- the sources that are given so are this design, or have this first fault
pub record Denotes (AreGiven : Sources → Type 0) (result : Result DesignView FileFault) :
    Type 0 where
  pub sources : Sources
  pub given : AreGiven sources
  pub denoted : AreRead sources result

-- they are this design
abbrev pub IsDesign : (Sources → Type 0) → DesignView → Type 0
IsDesign AreGiven d = Denotes AreGiven (Ok d)

-- this is their first fault
abbrev pub IsDesignFault : (Sources → Type 0) → Text → ℕ → Code → Type 0
IsDesignFault AreGiven file offset code =
    Denotes AreGiven (Err (record { file = file; offset = offset; code = code }))
