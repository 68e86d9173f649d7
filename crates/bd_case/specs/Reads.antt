-- The case or the trail that a text is, or its first fault. This project's own.
use Rattle.std.specs.Prelude.{◌≡◌, ◌⊎◌, ℕ, List, Result, Ok, Err}
use Rattle.bd_text.specs.Faults.{HasNoFault, IsFirstFault}
use Rattle.bd_text.specs.Grammar.{Spells}
use Rattle.bd_text.specs.Nodes.{Nodes}
use Rattle.bd_syntax.specs.Reading.{Fault}
use Rattle.bd_text.specs.declared.fault.TextFault.{TextFault}
use Rattle.bd_text.specs.declared.fault.TextFault.TheVariants as faults
use Rattle.bd_model.specs.DesignView.{DesignView}
use Rattle.bd_model.specs.declared.case.Case.{Case}
use Rattle.bd_model.specs.declared.case.Trail.{Trail}
use Rattle.bd_case.specs.Reading.{case_form, trail_form}

-- the text has no fault of its own, and its trees read so
pub record TreesRead {A : Type 0} (form : Nodes → Result A Fault) (source : List ℕ) (reading : Result A Fault) : Type 0 where
  pub no_fault : HasNoFault source
  pub trees : Nodes
  pub spelled : Spells source trees
  pub read : form trees ≡ reading

-- the text reads so, or it has that first fault: its own comes before one of its trees
abbrev pub TextReads : {A : Type 0} → (Nodes → Result A Fault) → List ℕ → Result A Fault → Type 0
TextReads form source (Ok x) = TreesRead form source (Ok x)
TextReads form source (Err fault) =
    IsFirstFault source fault.offset fault.code ⊎ TreesRead form source (Err fault)

-- what reading answered is the reading of the text, unless memory ran out
abbrev pub AnswerReads : {A : Type 0} → (Nodes → Result A Fault) → List ℕ → Result A TextFault → Type 0
AnswerReads form source (Ok x) = TextReads form source (Ok x)
AnswerReads form source (Err (faults.Bad offset code)) =
    TextReads form source (Err (record { offset = offset; code = code }))
AnswerReads form source (Err faults.Memory) = Unit {0}

-- the text is that case of the design, or has that first fault
abbrev pub IsReading : DesignView → List ℕ → Result Case Fault → Type 0
IsReading d source reading = TextReads (case_form d) source reading

abbrev pub IsRead : DesignView → List ℕ → Result Case TextFault → Type 0
IsRead d source answer = AnswerReads (case_form d) source answer

-- the text is that trail of the design, or has that first fault
abbrev pub IsTrailReading : DesignView → List ℕ → Result Trail Fault → Type 0
IsTrailReading d source reading = TextReads (trail_form d) source reading

abbrev pub IsTrailRead : DesignView → List ℕ → Result Trail TextFault → Type 0
IsTrailRead d source answer = AnswerReads (trail_form d) source answer
