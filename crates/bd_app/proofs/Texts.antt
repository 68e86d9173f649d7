-- From the reading of a text to the text, or to its fault.
use Rattle.std.proofs.Common.{◌≤◌, ℕ, List, length, refl}
use Rattle.std.specs.Prelude.{Result, Ok, Err, IfOk, IfErr}
use Rattle.bd_case.specs.Reads.{AnswerReads, TextReads}
use Rattle.bd_model.specs.DesignView.{DesignView}
use Rattle.bd_model.specs.Fits.{TrailFits}
use Rattle.bd_model.specs.declared.case.Trail.{Trail}
use Rattle.bd_model.specs.Limits.{most_cycles}
use Rattle.bd_syntax.specs.Reading.{Fault as ReadFault}
use Rattle.bd_text.specs.Nodes.{Nodes}
use Rattle.bd_text.specs.declared.fault.TextFault.{TextFault}
use Rattle.bd_text.specs.declared.fault.TextFault.TheVariants as texts
use Rattle.bd_app.specs.Texts.{TextKind, TrailFitsShort}
use Rattle.bd_app.specs.inner.Done.{IsTextRefused}
use Rattle.bd_app.specs.inner.Faults.{of_text}

module _ {V : Type 0} (k : TextKind V) (d : DesignView) (bytes : List ℕ) (form : Nodes → Result V ReadFault) (reads : (x : Result V ReadFault) → TextReads form bytes x → k.IsReading d bytes x) where
  -- what is read of a text fits
  pub text_read : (r : Result V TextFault) → AnswerReads form bytes r → IfOk r (k.Fits d) → IfOk (of_text k.file r) (λ x. k.IsReading d bytes (Ok x) × k.Fits d x)
  text_read (Ok x) read fits = (reads (Ok x) read, fits)
  text_read (Err (texts.Bad offset code)) read fits = tt
  text_read (Err texts.Memory) read fits = tt

  -- a text that isn't read is refused
  pub text_not_read : (r : Result V TextFault) → AnswerReads form bytes r → IfErr (of_text k.file r) (IsTextRefused k d bytes)
  text_not_read (Ok x) read = tt
  text_not_read (Err (texts.Bad offset code)) read = (refl, reads (Err (record { offset = offset; code = code })) read)
  text_not_read (Err texts.Memory) read = tt

-- a trail that fits, and is short
pub short_trail : {E : Type 0} (d : DesignView) (r : Result Trail E) → IfOk r (TrailFits d) → IfOk r (λ t. length t.inputs ≤ most_cycles) → IfOk r (TrailFitsShort d)
short_trail d (Ok t) fits short = record { fits = fits; short = short }
short_trail d (Err e) fits short = tt
