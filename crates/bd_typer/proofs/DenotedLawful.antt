-- The design that texts denote is lawful.
use Rattle.std.proofs.Common.{◌≡◌, ◌≤◌, inl, inr, ℕ, List, length, Option, Some, None, Result, Ok, Err, sym, subst}
use Rattle.std.specs.Prelude.{IfOk, IfSome}
use Rattle.std.specs.Option.{option_map}
use Rattle.std.specs.Borrow.{Bor}
use Rattle.bd_text.specs.Nodes.{Nodes}
use Rattle.bd_model.specs.Abstraction.{IsLawfulAbstraction}
use Rattle.bd_model.specs.DesignView.{DesignView, design_view}
use Rattle.bd_model.specs.Lawful.{IsLawful}
use Rattle.bd_model.specs.declared.design.Design.{Design}
use Rattle.bd_syntax.specs.Completion.{CompView}
use Rattle.bd_syntax.specs.Forms.{AstView, InvView, invariant_view}
use Rattle.bd_syntax.specs.Reading.{machine_form, invariant_form}
use Rattle.bd_syntax.specs.WellFormed.{AreWithinLimits}
use Rattle.bd_syntax.specs.declared.ast.InvAst.{InvAst}
use Rattle.bd_syntax.specs.declared.ast.Kind.TheVariants as kinds
use Rattle.bd_syntax.proofs.Limits.{spelled_within_limits}
use Rattle.bd_typer.specs.declared.fault.Text.{Text}
use Rattle.bd_typer.specs.declared.fault.Text.TheVariants.{Pipe, Spec}
use Rattle.bd_typer.specs.declared.fault.TypeFault.{TypeFault}
use Rattle.bd_typer.specs.declared.premise.Premise.{Premise}
use Rattle.bd_typer.specs.Denotes.{design_of_machines, design_of_trees, premise_file, premise_form, premise_head, with_premise, Reads, ReadsIf, DenotesWith, OnDesign}
use Rattle.bd_typer.specs.Faults.{◌>>=◌, FileFault, in_file, GivesIn}
use Rattle.bd_typer.specs.Given.{IsMachineFile, IsCompFile, IsInvFile}
use Rattle.bd_typer.specs.Joined.{joined, joined_view, joined_with}
use Rattle.bd_typer.specs.declared.joining.Joined.{Joined}
use Rattle.bd_typer.proofs.Abstractions.{view_lawful}
use Rattle.bd_typer.proofs.Faultless.{in_file_ok}
use Rattle.bd_typer.proofs.Lawfulness.{both_lawful, joined_lawful}
use Rattle.bd_typer.proofs.ReadFiles.{machine_file, inv_file}
use Rattle.bd_typer.proofs.Sound.{then_ok}
use Rattle.bd_model.specs.Limits.{longest_text}

-- what joining returns is lawful
pub given_lawful : (result : Result Design TypeFault) (pipe spec : AstView) (inv : Option InvView) → IsMachineFile kinds.Pipeline pipe → IsMachineFile kinds.Specification spec → IfSome inv IsInvFile
    → GivesIn design_view result (joined pipe spec inv) → IfOk result (λ d. IsLawful (design_view d))
given_lawful (Ok d) pipe spec inv p s i h = joined_lawful pipe spec inv (design_view d) p s i h
given_lawful (Err fault) pipe spec inv p s i h = tt

-- what joining returns with its abstraction is lawful
pub given_both : (result : Result Joined TypeFault) (pipe spec : AstView) (comp : Option CompView) (inv : Option InvView) → IsMachineFile kinds.Pipeline pipe → IsMachineFile kinds.Specification spec → IfSome comp IsCompFile → IfSome inv IsInvFile
    → GivesIn joined_view result (joined_with pipe spec comp inv) → IfOk result (λ j. IsLawful (design_view j.design)) × IfOk result (λ j. IsLawfulAbstraction (design_view j.design) j.abs)
given_both (Ok j) pipe spec comp inv p s c i h =
    let both = both_lawful pipe spec comp inv (joined_view j) p s c i h in
    (both.0, view_lawful (design_view j.design) j.abs both.1)
given_both (Err fault) pipe spec comp inv p s c i h = (tt, tt)

pub seen_inv : (inv : Option (Bor InvAst)) → IfSome inv (λ (ast : Bor InvAst). IsInvFile (invariant_view ast.now)) → IfSome (option_map (λ (ast : Bor InvAst). invariant_view ast.now) inv) IsInvFile
seen_inv None h = tt
seen_inv (Some ast) h = h

read_third : (premise : Premise) (trees : Option Nodes) (inv : Option InvView) → IfSome trees AreWithinLimits → premise_form premise trees ≡ Ok inv → IfSome inv IsInvFile
read_third premise None None within h = tt
read_third premise None (Some inv) within h = absurd (cc h)
read_third premise (Some trees) inv within h =
    let p = then_ok (invariant_form (premise_head premise) trees) (λ ast. Ok (Some ast)) inv h in
    let e : Some p.0 ≡ inv = cc p.2 in
    subst (λ i. IfSome i IsInvFile) e (inv_file (premise_head premise) trees p.0 within p.1)

-- what is joined with a premise is what is joined
with_ok : (premise : Premise) (given : Result DesignView FileFault) (d : DesignView) → with_premise premise given ≡ Ok d → given ≡ Ok d
with_ok premise (Ok d) other h = h
with_ok premise (Err fault) other h = absurd (cc h)

trees_lawful : (premise : Premise) (pipe spec : Nodes) (third : Option Nodes) (d : DesignView) → AreWithinLimits pipe → AreWithinLimits spec → IfSome third AreWithinLimits → design_of_trees premise pipe spec third ≡ Ok d → IsLawful d
unfolding design_of_trees design_of_machines
trees_lawful premise pipe spec third d pipe_within spec_within third_within h =
    let file = premise_file premise in
    let p = then_ok (in_file Pipe (machine_form kinds.Pipeline pipe)) (λ p. in_file Spec (machine_form kinds.Specification spec) >>= λ s. design_of_machines premise p s third) d h in
    let s = then_ok (in_file Spec (machine_form kinds.Specification spec)) (λ s. design_of_machines premise p.0 s third) d p.2 in
    let t = then_ok (in_file file (premise_form premise third)) (λ t. with_premise premise (joined p.0 s.0 t)) d s.2 in
    joined_lawful p.0 s.0 t.0 d
    (machine_file kinds.Pipeline pipe p.0 pipe_within (in_file_ok Pipe (machine_form kinds.Pipeline pipe) p.0 p.1))
    (machine_file kinds.Specification spec s.0 spec_within (in_file_ok Spec (machine_form kinds.Specification spec) s.0 s.1))
    (read_third premise third t.0 third_within (in_file_ok file (premise_form premise third) t.0 t.1)) (with_ok premise (joined p.0 s.0 t.0) d t.2)

-- a text that is no fault spells trees within the limits, of which the rest holds
reads_lawful : (file : Text) (source : List ℕ) (d : DesignView) (Rest : Nodes → Type 0) → length source ≤ longest_text → ((trees : Nodes) → AreWithinLimits trees → Rest trees → IsLawful d) → Reads file source (Ok d) Rest → IsLawful d
reads_lawful file source d Rest short then (inl (offset, code, first, is)) = absurd (cc is)
reads_lawful file source d Rest short then (inr (fine, (trees, spells, rest))) = then trees (spelled_within_limits source trees short fine spells) rest

third_lawful : (file : Text) (third : Option (List ℕ)) (d : DesignView) (Rest : Option Nodes → Type 0) → IfSome third (λ source. length source ≤ longest_text) → ((trees : Option Nodes) → IfSome trees AreWithinLimits → Rest trees → IsLawful d)
    → ReadsIf file third (Ok d) Rest → IsLawful d
third_lawful file None d Rest short then h = then None tt h
third_lawful file (Some source) d Rest short then h = reads_lawful file source d (λ trees. Rest (Some trees)) short (λ trees. then (Some trees)) h

pub denotes_lawful : (premise : Premise) (pipe spec : List ℕ) (third : Option (List ℕ)) (d : DesignView) → length pipe ≤ longest_text → length spec ≤ longest_text → IfSome third (λ source. length source ≤ longest_text)
    → DenotesWith premise pipe spec third (Ok d) → IsLawful d
denotes_lawful premise pipe spec third d pipe_short spec_short third_short h =
    reads_lawful Pipe pipe d _ pipe_short (λ p p_within. reads_lawful Spec spec d _ spec_short (λ s s_within. third_lawful (premise_file premise) third d _ third_short (λ t t_within is. trees_lawful premise p s t d p_within s_within t_within (sym is)))) h

abbrev IsShortText : Bor (List ℕ) → Type 0
IsShortText text = length text.now ≤ longest_text

seen_text : (third : Option (Bor (List ℕ))) → IfSome third IsShortText → IfSome (option_map (λ (text : Bor (List ℕ)). text.now) third) (λ source. length source ≤ longest_text)
seen_text None h = tt
seen_text (Some text) h = h

-- what reading texts returns is lawful
pub read_lawful : (result : Result Design TypeFault) (premise : Premise) (pipe spec : List ℕ) (third : Option (Bor (List ℕ))) → length pipe ≤ longest_text → length spec ≤ longest_text → IfSome third (λ (text : Bor (List ℕ)). length text.now ≤ longest_text)
    → OnDesign result (DenotesWith premise pipe spec (option_map (λ (text : Bor (List ℕ)). text.now) third)) → IfOk result (λ d. IsLawful (design_view d))
read_lawful (Ok d) premise pipe spec third p s t h = denotes_lawful premise pipe spec (option_map (λ (text : Bor (List ℕ)). text.now) third) (design_view d) p s (seen_text third t) h
read_lawful (Err fault) premise pipe spec third p s t h = tt
