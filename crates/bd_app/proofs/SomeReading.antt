-- Each text reads as something, and texts of a completion function as one thing alone.
use Rattle.std.proofs.Common.{◌≡◌, ◌∙◌, ℕ, List, refl, sym, subst, inl, inr}
use Rattle.std.specs.Prelude.{◌⊎◌, Option, Some, None, Result, Ok, Err}
use Rattle.bd_text.specs.Faults.{HasNoFault, IsFirstFault}
use Rattle.bd_text.specs.Grammar.{Spells}
use Rattle.bd_text.specs.Nodes.{Nodes}
use Rattle.bd_text.specs.declared.code.Code.{Code}
use Rattle.bd_text.proofs.FirstFaults.{one_first}
use Rattle.bd_text.proofs.Unique.{one_reading-holds}
use Rattle.bd_syntax.specs.Reading.{Fault}
use Rattle.bd_case.specs.Reads.{TextReads}
use Rattle.bd_typer.specs.Denotes.{DenotesCompleted, Reads, ReadsIf, completed_of_trees}
use Rattle.bd_typer.specs.Faults.{FileFault}
use Rattle.bd_typer.specs.Joined.{JoinedView}
use Rattle.bd_typer.specs.declared.fault.Text.{Text}
use Rattle.bd_typer.specs.declared.fault.Text.TheVariants.{Pipe, Spec, Comp, Inv}
use Rattle.bd_typer.specs.declared.premise.Premise.TheVariants.{Invariant}
use Rattle.bd_typer.proofs.SomeResult.{some_result}

-- the text has a first fault, or none, and spells trees
abbrev Known : List ℕ → Type 0
Known source = ((offset : ℕ) × (code : Code) × IsFirstFault source offset code) ⊎ (HasNoFault source × ((trees : Nodes) × Spells source trees))

-- each text does, since it denotes something as a pipeline
known : (source : List ℕ) → Known source
known source = elim ((some_result Invariant source source None).1) [
  | inl found ↦ inl (found.0, found.1, found.2)
  | inr rest ↦ inr (rest.0, (rest.1.0, rest.1.1))
]

-- what the trees of a text are read as
read_as : {A : Type 0} (form : Nodes → Result A Fault) (source : List ℕ) → HasNoFault source → (trees : Nodes) → Spells source trees
    → (r : Result A Fault) → form trees ≡ r → (r : Result A Fault) × TextReads form source r
read_as form source none trees spelled (Ok x) is = (Ok x, record { no_fault = none; trees = trees; spelled = spelled; read = is })
read_as form source none trees spelled (Err fault) is = (Err fault, inr (record { no_fault = none; trees = trees; spelled = spelled; read = is }))

pub some_reading : {A : Type 0} (form : Nodes → Result A Fault) (source : List ℕ) → (r : Result A Fault) × TextReads form source r
some_reading form source = elim (known source) [
  | inl found ↦ (Err (record { offset = found.0; code = found.1 }), inl found.2)
  | inr rest ↦ read_as form source rest.0 rest.1.0 rest.1.1 (form rest.1.0) refl
]

-- ---- completion functions

module _ {A : Type 0} (file : Text) where
  reads_some : (source : List ℕ) (Rest : Result A FileFault → Nodes → Type 0) → ((trees : Nodes) → (r : Result A FileFault) × Rest r trees) → (r : Result A FileFault) × Reads file source r (Rest r)
  reads_some source Rest then = elim (known source) [
    | inl found ↦ (Err (record { file = file; offset = found.0; code = found.1 }), inl (found.0, found.1, found.2, refl))
    | inr rest ↦ (let next = then rest.1.0 in (next.0, inr (rest.0, (rest.1.0, rest.1.1, next.1))))
  ]

  reads_some_if : (text : Option (List ℕ)) (Rest : Result A FileFault → Option Nodes → Type 0) → ((trees : Option Nodes) → (r : Result A FileFault) × Rest r trees) → (r : Result A FileFault) × ReadsIf file text r (Rest r)
  reads_some_if None Rest then = then None
  reads_some_if (Some source) Rest then = reads_some source (λ r trees. Rest r (Some trees)) (λ trees. then (Some trees))

  reads_once : (source : List ℕ) (r q : Result A FileFault) (R Q : Nodes → Type 0) → ((trees : Nodes) → R trees → Q trees → r ≡ q) → Reads file source r R → Reads file source q Q → r ≡ q
  reads_once source r q R Q then (inl (o, code, first, is)) (inl (p, other, second, is')) =
      let same = one_first source o p code other first second in is ∙ rw (same.0, same.1) (sym is')
  reads_once source r q R Q then (inl (o, code, first, is)) (inr (none, rest)) = absurd (none o code first.0)
  reads_once source r q R Q then (inr (none, rest)) (inl (o, code, first, is)) = absurd (none o code first.0)
  reads_once source r q R Q then (inr (none, (trees, spells, h))) (inr (fine, (others, spells', g))) =
      then trees h (subst Q (one_reading-holds source others trees spells' spells) g)

  reads_if_once : (text : Option (List ℕ)) (r q : Result A FileFault) (R Q : Option Nodes → Type 0) → ((trees : Option Nodes) → R trees → Q trees → r ≡ q) → ReadsIf file text r R → ReadsIf file text q Q → r ≡ q
  reads_if_once None r q R Q then h g = then None h g
  reads_if_once (Some source) r q R Q then h g = reads_once source r q (λ trees. R (Some trees)) (λ trees. Q (Some trees)) (λ trees. then (Some trees)) h g

pub some_completion : (pipe spec comp : List ℕ) (inv : Option (List ℕ)) → (r : Result JoinedView FileFault) × DenotesCompleted pipe spec comp inv r
some_completion pipe spec comp inv =
    reads_some Pipe pipe (λ r p. Reads Spec spec r (λ s. Reads Comp comp r (λ c. ReadsIf Inv inv r (λ i. r ≡ completed_of_trees p s c i))))
    (λ p. reads_some Spec spec (λ r s. Reads Comp comp r (λ c. ReadsIf Inv inv r (λ i. r ≡ completed_of_trees p s c i)))
    (λ s. reads_some Comp comp (λ r c. ReadsIf Inv inv r (λ i. r ≡ completed_of_trees p s c i))
    (λ c. reads_some_if Inv inv (λ r i. r ≡ completed_of_trees p s c i) (λ i. (completed_of_trees p s c i, refl)))))

pub one_completion : (pipe spec comp : List ℕ) (inv : Option (List ℕ)) (r q : Result JoinedView FileFault) → DenotesCompleted pipe spec comp inv r → DenotesCompleted pipe spec comp inv q → r ≡ q
one_completion pipe spec comp inv r q h g =
    reads_once Pipe pipe r q _ _ (λ p. reads_once Spec spec r q _ _ (λ s. reads_once Comp comp r q _ _ (λ c. reads_if_once Inv inv r q _ _ (λ i e f. e ∙ sym f)))) h g
