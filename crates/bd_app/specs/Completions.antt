-- A design and a completion function on it, as files give them.
use Rattle.std.specs.Prelude.{ℕ, List, Result, Ok, Err}
use Rattle.bd_model.specs.Abstraction.{AbstractionView}
use Rattle.bd_files.specs.Devices.{Held}
use Rattle.bd_model.specs.DesignView.{DesignView}
use Rattle.bd_text.specs.declared.code.Code.{Code}
use Rattle.bd_typer.specs.Denotes.{DenotesCompleted}
use Rattle.bd_typer.specs.Faults.{FileFault}
use Rattle.bd_typer.specs.Joined.{JoinedView}
use Rattle.bd_typer.specs.declared.fault.Text.{Text}
use Rattle.bd_typer.specs.declared.fault.Text.TheVariants.{Comp}
use Rattle.bd_app.specs.Files.{HoldsShort, TextNames}
use Rattle.bd_app.specs.Sources.{Sources, TextSources}
pub use Rattle.bd_completion.specs.Kept.{abstraction_by}

-- the texts of a pipeline, a specification and maybe an invariant, and that of a completion function,
-- are this design and this abstraction, or have this first fault
abbrev pub AreCompleted : Sources → List ℕ → Result JoinedView FileFault → Type 0
AreCompleted s comp result = DenotesCompleted s.pipe s.spec comp s.third result

-- the files have such texts
pub record Completes (names : TextNames) (held : Held) (result : Result JoinedView FileFault) :
    Type 0 where
  pub sources : Sources
  pub given : TextSources names held sources
  pub comp : List ℕ
  pub comp_given : HoldsShort held (Comp, names.text) comp
  pub denoted : AreCompleted sources comp result

-- they are this design and this abstraction
abbrev pub CompletesTo : TextNames → Held → DesignView → AbstractionView → Type 0
CompletesTo names held d abs = Completes names held (Ok (record { design = d; abs = abs }))

-- this is their first fault
abbrev pub IsCompletionFault : TextNames → Held → Text → ℕ → Code → Type 0
IsCompletionFault names held file offset code =
    Completes names held (Err (record { file = file; offset = offset; code = code }))
