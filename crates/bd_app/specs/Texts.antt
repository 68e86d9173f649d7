-- Texts on a design: cases, and trails.
use Rattle.std.specs.Prelude.{◌≡◌, ◌≤◌, ℕ, List, [], length, Option, Some, None, Result, Ok}
use Rattle.bd_model.specs.DesignView.{DesignView}
use Rattle.bd_model.specs.Fits.{Fits, TrailFits}
use Rattle.bd_model.specs.declared.case.Case.{Case}
use Rattle.bd_model.specs.declared.case.Trail.{Trail}
use Rattle.bd_case.specs.Reads.{IsReading, IsTrailReading}
use Rattle.bd_case.specs.Text.{text_of, trail_text_of}
use Rattle.bd_syntax.specs.Reading.{Fault}
use Rattle.bd_typer.specs.declared.fault.Text.{Text}
use Rattle.bd_typer.specs.declared.fault.Text.TheVariants as text
use Rattle.bd_model.specs.Limits.{most_cycles}

-- a kind of text: its file, how one is written, what bytes read as, and what is read of them
pub record TextKind (V : Type 0) : Type 1 where
  pub file : Text
  pub text_of : DesignView → V → List ℕ
  pub IsReading : DesignView → List ℕ → Result V Fault → Type 0
  pub Fits : DesignView → V → Type 0

abbrev pub case_kind : TextKind Case
case_kind =
    record { file = text.Case; text_of = text_of; IsReading = IsReading; Fits = Fits }

-- a trail of at most 16 cycles
pub record TrailFitsShort (d : DesignView) (t : Trail) : Type 0 where
  pub fits : TrailFits d t
  pub short : length t.inputs ≤ most_cycles

abbrev pub trail_kind : TextKind Trail
trail_kind = record {
  file = text.Trail;
  text_of = trail_text_of;
  IsReading = IsTrailReading;
  Fits = TrailFitsShort;
}

-- the bytes are the text of this, and read back as it
pub record IsTextOf {V : Type 0} (k : TextKind V) (d : DesignView) (x : V) (bytes : List ℕ) :
    Type 0 where
  pub written : bytes ≡ k.text_of d x
  pub reads_back : k.IsReading d bytes (Ok x)

-- what is printed of it, where there is one
abbrev pub IsTextOfIf : {V : Type 0} → TextKind V → DesignView → Option V → List ℕ → Type 0
IsTextOfIf k d None bytes = bytes ≡ []
IsTextOfIf k d (Some x) bytes = IsTextOf k d x bytes
