-- Why texts aren't read.
use Rattle.std.specs.Prelude.{◌≡◌, ℕ, List, Option, Err}
use Rattle.bd_model.specs.DesignView.{DesignView}
use Rattle.bd_text.specs.declared.code.Code.{Code}
use Rattle.bd_typer.specs.declared.fault.Text.{Text}
use Rattle.bd_typer.specs.declared.fault.Text.TheVariants.{Case}
use Rattle.bd_typer.specs.declared.fault.TypeFault.{TypeFault}
use Rattle.bd_typer.specs.declared.fault.TypeFault.TheVariants.{Bad, Memory}
use Rattle.bd_show.specs.Files.{IsCaseOf, IsTextFault, Texts}

-- a fault of which this holds, unless memory ran out
abbrev pub IsRefusedBy : (Text → ℕ → Code → Type 0) → TypeFault → Type 0
IsRefusedBy IsFault (Bad file offset code) = IsFault file offset code
IsRefusedBy IsFault Memory = Unit {0}

-- the fault of a case's text
abbrev pub IsCaseFault : DesignView → Option (List ℕ) → Text → ℕ → Code → Type 0
IsCaseFault d text file offset code =
    (file ≡ Case) × IsCaseOf d text (Err (record { offset = offset; code = code }))

abbrev pub AreRefused : Texts → TypeFault → Type 0
AreRefused texts fault = IsRefusedBy (IsTextFault texts) fault
