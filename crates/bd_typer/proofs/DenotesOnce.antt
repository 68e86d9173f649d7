-- Three texts denote at most one design or first fault.
use Rattle.std.proofs.Common.{◌≡◌, inl, inr, ℕ, List, Option, Some, None, Result, Ok, Err, refl, sym, ◌∙◌, subst}
use Rattle.bd_text.specs.Nodes.{Nodes}
use Rattle.bd_text.proofs.FirstFaults.{one_first}
use Rattle.bd_text.proofs.Unique.{one_reading-holds}
use Rattle.bd_model.specs.DesignView.{DesignView}
use Rattle.bd_typer.specs.declared.fault.Text.{Text}
use Rattle.bd_typer.specs.declared.fault.Text.TheVariants.{Pipe, Spec}
use Rattle.bd_typer.specs.Faults.{FileFault}
use Rattle.bd_text.specs.Faults.{HasNoFault, IsFirstFault}
use Rattle.bd_text.specs.Grammar.{Spells}
use Rattle.bd_typer.specs.declared.premise.Premise.{Premise}
use Rattle.bd_typer.specs.declared.fault.TypeFault.{TypeFault}
use Rattle.bd_typer.specs.declared.fault.TypeFault.TheVariants as faults
use Rattle.bd_typer.specs.Faults.{GivesIn}
use Rattle.bd_typer.specs.inner.Located.{OnText}
use Rattle.bd_typer.specs.Denotes.{Reads, ReadsIf, DenotesWith, OnGiven, premise_file}

reads_once : {A : Type 0} (file : Text) (source : List ℕ) (r q : Result A FileFault) (R Q : Nodes → Type 0) → ((trees : Nodes) → R trees → Q trees → r ≡ q) → Reads file source r R → Reads file source q Q → r ≡ q
reads_once file source r q R Q then (inl (o, code, first, is)) (inl (p, other, second, is')) =
    let same = one_first source o p code other first second in is ∙ rw (same.0, same.1) (sym is')
reads_once file source r q R Q then (inl (o, code, first, is)) (inr (none, rest)) = absurd (none o code first.0)
reads_once file source r q R Q then (inr (none, rest)) (inl (o, code, first, is)) = absurd (none o code first.0)
reads_once file source r q R Q then (inr (none, (trees, spells, h))) (inr (fine, (others, spells', g))) =
    then trees h (subst Q (one_reading-holds source others trees spells' spells) g)

reads_if_once : {A : Type 0} (file : Text) (text : Option (List ℕ)) (r q : Result A FileFault) (R Q : Option Nodes → Type 0) → ((trees : Option Nodes) → R trees → Q trees → r ≡ q) → ReadsIf file text r R → ReadsIf file text q Q → r ≡ q
reads_if_once file None r q R Q then h g = then None h g
reads_if_once file (Some source) r q R Q then h g = reads_once file source r q (λ trees. R (Some trees)) (λ trees. Q (Some trees)) (λ trees. then (Some trees)) h g

pub denotes_once : (premise : Premise) (pipe spec : List ℕ) (third : Option (List ℕ)) (r q : Result DesignView FileFault) → DenotesWith premise pipe spec third r → DenotesWith premise pipe spec third q → r ≡ q
denotes_once premise pipe spec third r q h g =
    reads_once Pipe pipe r q _ _ (λ p. reads_once Spec spec r q _ _ (λ s. reads_if_once (premise_file premise) third r q _ _ (λ t e f. e ∙ sym f))) h g

-- ---- reading texts

module _ {A B : Type 0} (view : A → B) where
  -- a text with a fault
  pub on_fault : (file : Text) (source : List ℕ) (fault : TypeFault) (R : Result B FileFault → Nodes → Type 0) → OnText file fault (IsFirstFault source) → OnGiven view (Err fault) (λ r. Reads file source r (R r))
  on_fault file source faults.Memory R h = tt
  on_fault file source (faults.Bad other offset code) R h = inl (offset, code, h.1, rw h.0 refl)

  -- a text that spells trees
  pub on_trees : (file : Text) (source : List ℕ) (result : Result A TypeFault) (R : Result B FileFault → Nodes → Type 0) (trees : Nodes) → HasNoFault source → Spells source trees → OnGiven view result (λ r. R r trees) → OnGiven view result (λ r. Reads file source r (R r))
  on_trees file source (Ok d) R trees none spells h = inr (none, (trees, spells, h))
  on_trees file source (Err faults.Memory) R trees none spells h = tt
  on_trees file source (Err (faults.Bad other offset code)) R trees none spells h = inr (none, (trees, spells, h))

  -- what trees give
  pub on_given : (result : Result A TypeFault) (given : Result B FileFault) → GivesIn view result given → OnGiven view result (λ r. r ≡ given)
  on_given (Ok d) given h = sym h
  on_given (Err faults.Memory) given h = tt
  on_given (Err (faults.Bad file offset code)) given h = sym h
