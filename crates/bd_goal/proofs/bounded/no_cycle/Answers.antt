use Rattle.std.proofs.Common.{sym, subst}
use Rattle.bd_model.specs.DesignView.{design_view}
use Rattle.bd_symbolic.specs.DesignSymbols.{GrowsWithin, KeepsDesign}
use Rattle.bd_symbolic.proofs.Growing.{Grows-none, Grows-trans, KeepsDesign-Grows}
use Rattle.bd_symbolic.proofs.Widening.{widened-once}
use Rattle.bd_terms.specs.declared.node.Node.TheVariants as node
use Rattle.std.proofs.Common.{Ok}
use Rattle.bd_terms.specs.declared.node.Sym.TheVariants as symbol
use Rattle.bd_terms.specs.Graph.{Extends}
use Rattle.bd_terms.proofs.Growth.{Extends-trans}
use Rattle.bd_model.specs.declared.abstraction.Abstraction.TheVariants as abstraction
use Rattle.bd_symbolic.specs.declared.state.SymState.{SymState}
use Rattle.bd_symbolic.proofs.Making.{called, first-Extends}
use Rattle.bd_goal.proofs.Making.{invariant-Extends, visible-Extends}
use Rattle.bd_goal.proofs.Running.{run-starts}
use Rattle.bd_goal.proofs.Showing.{StateHasSorts-later}
use Rattle.bd_goal.proofs.bounded.no_cycle.Goals as goal
use Rattle.bd_symbolic.proofs.States.{HaveSorts-Extends}

pub sym_inputs-requires-clause-keeps : goal.sym_inputs-requires-clause-keeps
sym_inputs-requires-clause-keeps c =
    let d = design_view c.args.design.now in
    subst (λ e. KeepsDesign e c.sym_entries.new.graph) (sym (widened-once d)) (KeepsDesign-Grows d _ _ c.sym_entries.ensures.grows c.requires.keeps)

pub invariant-requires-clause-keeps : goal.invariant-requires-clause-keeps
invariant-requires-clause-keeps c =
    let d = design_view c.args.design.now in
    KeepsDesign-Grows d _ _ (Grows-trans d _ _ _ c.sym_entries.ensures.grows (subst (λ e. GrowsWithin e c.sym_entries.new.graph c.sym_inputs.new.graph) (widened-once d) c.sym_inputs.ensures.grows)) c.requires.keeps

pub invariant-requires-clause-sorted : goal.invariant-requires-clause-sorted
invariant-requires-clause-sorted c =
    let d = design_view c.args.design.now in
    record { entries = HaveSorts-Extends _ _ c.sym_inputs.ensures.grows.extends _ _ c.in_ok-entries.ensures.sorted; inputs = c.in_ok-inputs.ensures.sorted }

pub abstracted-requires-clause-keeps : goal.abstracted-requires-clause-keeps
abstracted-requires-clause-keeps c =
    let d = design_view c.args.design.now in
    KeepsDesign-Grows d _ _ (Grows-trans d _ _ _ (Grows-trans d _ _ _ c.sym_entries.ensures.grows (subst (λ e. GrowsWithin e c.sym_entries.new.graph c.sym_inputs.new.graph) (widened-once d) c.sym_inputs.ensures.grows)) c.invariant.ensures.grows) c.requires.keeps

pub abstracted-requires-clause-sorted : goal.abstracted-requires-clause-sorted
abstracted-requires-clause-sorted c =
    let d = design_view c.args.design.now in
    StateHasSorts-later d _ _ c.invariant.ensures.grows.extends _ (record { entries = HaveSorts-Extends _ _ c.sym_inputs.ensures.grows.extends _ _ c.in_ok-entries.ensures.sorted; inputs = c.in_ok-inputs.ensures.sorted })

pub returns-clause-starts : goal.returns-clause-starts
returns-clause-starts c =
    let d = design_view c.args.design.now in
    run-starts d _ _ _ _ _ _ _ _ _ c.sym_inputs.ensures.grows.extends c.in_ok-entries.ensures.sorted c.in_ok-entries.ensures.denotes c.in_ok-inputs.ensures.sorted c.in_ok-inputs.ensures.denotes
    c.invariant.ensures.grows.extends c.in_ok-inside.ensures.sorted c.in_ok-inside.ensures.says c.abstracted.ensures.grows.extends c.in_ok-flushed.ensures.shown c.mk_true.ensures.extends c.in_ok-commutes.ensures.sorted c.in_ok-commutes.ensures.denotes

pub returns-in_err-inputs-clause-grows : goal.returns-in_err-inputs-clause-grows
returns-in_err-inputs-clause-grows c =
    let d = design_view c.args.design.now in
    Grows-trans d _ _ _ c.sym_entries.ensures.grows (subst (λ e. GrowsWithin e c.sym_entries.new.graph c.sym_inputs.new.graph) (widened-once d) c.sym_inputs.ensures.grows)

pub returns-in_err-inside-clause-grows : goal.returns-in_err-inside-clause-grows
returns-in_err-inside-clause-grows c =
    let d = design_view c.args.design.now in
    Grows-trans d _ _ _ (Grows-trans d _ _ _ c.sym_entries.ensures.grows (subst (λ e. GrowsWithin e c.sym_entries.new.graph c.sym_inputs.new.graph) (widened-once d) c.sym_inputs.ensures.grows)) c.invariant.ensures.grows

pub returns-in_err-flushed-clause-grows : goal.returns-in_err-flushed-clause-grows
returns-in_err-flushed-clause-grows c =
    let d = design_view c.args.design.now in
    Grows-trans d _ _ _ (Grows-trans d _ _ _ (Grows-trans d _ _ _ c.sym_entries.ensures.grows (subst (λ e. GrowsWithin e c.sym_entries.new.graph c.sym_inputs.new.graph) (widened-once d) c.sym_inputs.ensures.grows)) c.invariant.ensures.grows) c.abstracted.ensures.grows

pub returns-in_err-commutes-clause-grows : goal.returns-in_err-commutes-clause-grows
returns-in_err-commutes-clause-grows c =
    let d = design_view c.args.design.now in
    Grows-trans d _ _ _ (Grows-trans d _ _ _ (Grows-trans d _ _ _ (Grows-trans d _ _ _ c.sym_entries.ensures.grows (subst (λ e. GrowsWithin e c.sym_entries.new.graph c.sym_inputs.new.graph) (widened-once d) c.sym_inputs.ensures.grows)) c.invariant.ensures.grows) c.abstracted.ensures.grows) (Grows-none d _ _ c.mk_true.ensures.extends c.mk_true.ensures.uses)

pub returns-clause-grows : goal.returns-clause-grows
returns-clause-grows c =
    let d = design_view c.args.design.now in
    Grows-trans d _ _ _ (Grows-trans d _ _ _ (Grows-trans d _ _ _ (Grows-trans d _ _ _ c.sym_entries.ensures.grows (subst (λ e. GrowsWithin e c.sym_entries.new.graph c.sym_inputs.new.graph) (widened-once d) c.sym_inputs.ensures.grows)) c.invariant.ensures.grows) c.abstracted.ensures.grows) (Grows-none d _ _ c.mk_true.ensures.extends c.mk_true.ensures.uses)

pub returns-clause-made : goal.returns-clause-made
returns-clause-made c =
    let d = design_view c.args.design.now in
    let from_flushed : Extends c.abstracted.new.graph c.mk_true.new.self = c.mk_true.ensures.extends in
    let from_inside : Extends c.invariant.new.graph c.mk_true.new.self = Extends-trans _ _ _ c.abstracted.ensures.grows.extends from_flushed in
    let from_inputs : Extends c.sym_inputs.new.graph c.mk_true.new.self = Extends-trans _ _ _ c.invariant.ensures.grows.extends from_inside in
    let from_entries : Extends c.sym_entries.new.graph c.mk_true.new.self = Extends-trans _ _ _ c.sym_inputs.ensures.grows.extends from_inputs in
    let state : SymState = record { entries = c.in_ok-entries.entries; inputs = c.in_ok-inputs.inputs } in
    record {
      inputs = c.in_ok-inputs.inputs;
      are_entries = first-Extends (λ x. symbol.Entry x) _ _ from_entries _ _ _ c.in_ok-entries.ensures.made;
      are_inputs = first-Extends (λ x. symbol.Input x) _ _ from_inputs _ _ _ c.in_ok-inputs.ensures.made;
      is_inside = invariant-Extends _ _ from_inside d state _ c.in_ok-inside.ensures.made;
      is_flushed = visible-Extends _ _ from_flushed d abstraction.Flushing state _ c.in_ok-flushed.ensures.made;
      no_inputs = c.in_ok-flushed.ensures.shown.sorted.inputs;
      is_yes = called _ _ node.True (Ok _) tt c.in_ok-commutes.ensures.simplified;
    }
