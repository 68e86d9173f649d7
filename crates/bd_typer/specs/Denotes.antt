-- The design that texts denote, or their first fault. The language is this project's own.
use Rattle.std.specs.Prelude.{◌≡◌, ℕ, ◌⊎◌, List, Option, Some, None, Result, Ok, Err, codes}
use Rattle.bd_text.specs.Nodes.{Nodes}
use Rattle.bd_text.specs.Faults.{HasNoFault, IsFirstFault}
use Rattle.bd_text.specs.Grammar.{Spells}
use Rattle.bd_text.specs.declared.code.Code.{Code}
use Rattle.bd_model.specs.DesignView.{DesignView, design_view}
use Rattle.bd_model.specs.declared.design.Design.{Design}
use Rattle.bd_syntax.specs.Completion.{CompView, completion_form}
use Rattle.bd_syntax.specs.Forms.{AstView, InvView}
use Rattle.bd_syntax.specs.Reading.{Fault, machine_form, invariant_form}
use Rattle.bd_syntax.specs.declared.ast.Kind.TheVariants as kinds
use Rattle.bd_typer.specs.declared.fault.Text.{Text}
use Rattle.bd_typer.specs.declared.fault.Text.TheVariants.{Pipe, Spec, Comp, Inv, Start}
use Rattle.bd_typer.specs.declared.fault.TypeFault.{TypeFault}
use Rattle.bd_typer.specs.declared.fault.TypeFault.TheVariants as faults
use Rattle.bd_typer.specs.declared.joining.Joined.{Joined}
use Rattle.bd_typer.specs.declared.premise.Premise.{Premise}
use Rattle.bd_typer.specs.declared.premise.Premise.TheVariants as premises
use Rattle.bd_typer.specs.Faults.{◌>>=◌, FileFault, in_file}
use Rattle.bd_typer.specs.Joined.{JoinedView, joined, joined_completion, joined_view}

-- ---- the third file

-- as faults name it
abbrev pub premise_file : Premise → Text
premise_file premises.Invariant = Inv
premise_file premises.Start = Start

-- how its tree begins
abbrev pub premise_head : Premise → List ℕ
premise_head premises.Invariant = codes "invariant"
premise_head premises.Start = codes "start"

abbrev pub premise_form : Premise → Option Nodes → Result (Option InvView) Fault
premise_form premise None = Ok None
premise_form premise (Some trees) = do
  inv ← invariant_form (premise_head premise) trees
  Ok (Some inv)

-- it stands in the design as the invariant, whose faults are those of this file
abbrev pub file_with : Premise → Text → Text
file_with premise Inv = premise_file premise
file_with premise file = file

abbrev pub with_premise : Premise → Result DesignView FileFault → Result DesignView FileFault
with_premise premise (Ok d) = Ok d
with_premise premise (Err fault) =
    Err (record { file = file_with premise fault.file; offset = fault.offset; code = fault.code })

-- ---- the design

-- once the forms of the pipeline and the specification are read
unfoldable pub design_of_machines : Premise → AstView → AstView → Option Nodes → Result DesignView FileFault
design_of_machines premise p s third = do
  t ← in_file (premise_file premise) (premise_form premise third)
  with_premise premise (joined p s t)

-- the design of trees, or their first fault
unfoldable pub design_of_trees : Premise → Nodes → Nodes → Option Nodes → Result DesignView FileFault
design_of_trees premise pipe spec third = do
  p ← in_file Pipe (machine_form kinds.Pipeline pipe)
  s ← in_file Spec (machine_form kinds.Specification spec)
  design_of_machines premise p s third

-- a text has a first fault, which is the result, or it spells trees of which the rest holds
abbrev pub Reads : {A : Type 0} → Text → List ℕ → Result A FileFault → (Nodes → Type 0) → Type 0
Reads file source result Rest =
    ((offset : ℕ) × (code : Code) × IsFirstFault source offset code
    × (result ≡ Err (record { file = file; offset = offset; code = code })))
    ⊎ (HasNoFault source × ((trees : Nodes) × Spells source trees × Rest trees))

abbrev pub ReadsIf : {A : Type 0} → Text → Option (List ℕ) → Result A FileFault → (Option Nodes → Type 0) → Type 0
ReadsIf file None result Rest = Rest None
ReadsIf file (Some source) result Rest = Reads file source result (λ trees. Rest (Some trees))

-- what a third file denotes, once the pipeline and the specification spell trees
abbrev pub DenotesThird : Premise → Nodes → Nodes → Option (List ℕ) → Result DesignView FileFault → Type 0
DenotesThird premise p s third result =
    ReadsIf (premise_file premise) third result (λ t. result ≡ design_of_trees premise p s t)

-- what a pipeline, a specification and a third file denote: a design, or their first fault
abbrev pub DenotesWith : Premise → List ℕ → List ℕ → Option (List ℕ) → Result DesignView FileFault → Type 0
DenotesWith premise pipe spec third result =
    Reads Pipe pipe result (λ p. Reads Spec spec result (λ s. DenotesThird premise p s third result))

-- the same where the third file is an invariant
abbrev pub Denotes : List ℕ → List ℕ → Option (List ℕ) → Result DesignView FileFault → Type 0
Denotes pipe spec inv result = DenotesWith premises.Invariant pipe spec inv result

-- ---- the design and the abstraction

-- once the forms of all but the invariant are read
unfoldable pub completed_of_forms : AstView → AstView → CompView → Option Nodes → Result JoinedView FileFault
completed_of_forms p s c inv = do
  i ← in_file Inv (premise_form premises.Invariant inv)
  joined_completion p s c i

-- once the forms of the pipeline and the specification are read
unfoldable pub completed_of_machines : AstView → AstView → Nodes → Option Nodes → Result JoinedView FileFault
completed_of_machines p s comp inv = do
  c ← in_file Comp (completion_form comp)
  completed_of_forms p s c inv

-- those of trees, or their first fault
unfoldable pub completed_of_trees : Nodes → Nodes → Nodes → Option Nodes → Result JoinedView FileFault
completed_of_trees pipe spec comp inv = do
  p ← in_file Pipe (machine_form kinds.Pipeline pipe)
  s ← in_file Spec (machine_form kinds.Specification spec)
  completed_of_machines p s comp inv

-- what an invariant denotes, once all else spells trees
abbrev pub CompletesTrees : Nodes → Nodes → Nodes → Option (List ℕ) → Result JoinedView FileFault → Type 0
CompletesTrees p s c inv result = ReadsIf Inv inv result (λ i. result ≡ completed_of_trees p s c i)

-- what a completion and an invariant denote, once the pipeline and the specification spell trees
abbrev pub CompletesMachines : Nodes → Nodes → List ℕ → Option (List ℕ) → Result JoinedView FileFault → Type 0
CompletesMachines p s comp inv result = Reads Comp comp result (λ c. CompletesTrees p s c inv result)

-- what a pipeline, a specification, a completion and an invariant denote: a design and an abstraction, or their first
-- fault
abbrev pub DenotesCompleted : List ℕ → List ℕ → List ℕ → Option (List ℕ) → Result JoinedView FileFault → Type 0
DenotesCompleted pipe spec comp inv result =
    Reads Pipe pipe result (λ p. Reads Spec spec result (λ s. CompletesMachines p s comp inv result))

-- ---- results

-- what holds of a result as its view shows it, unless memory ran out
abbrev pub OnGiven : {A B : Type 0} → (A → B) → Result A TypeFault → (Result B FileFault → Type 0) → Type 0
OnGiven view (Ok x) P = P (Ok (view x))
OnGiven view (Err (faults.Bad file offset code)) P =
    P (Err (record { file = file; offset = offset; code = code }))
OnGiven view (Err faults.Memory) P = Unit {0}

abbrev pub OnDesign : Result Design TypeFault → (Result DesignView FileFault → Type 0) → Type 0
OnDesign result P = OnGiven design_view result P

abbrev pub OnJoined : Result Joined TypeFault → (Result JoinedView FileFault → Type 0) → Type 0
OnJoined result P = OnGiven joined_view result P
