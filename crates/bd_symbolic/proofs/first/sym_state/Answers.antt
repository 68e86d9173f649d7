use Rattle.std.proofs.Common.{sym, subst}
use Rattle.bd_model.specs.DesignView.{design_view}
use Rattle.bd_terms.specs.declared.node.Sym.TheVariants as symbol
use Rattle.bd_symbolic.specs.DesignSymbols.{GrowsWithin, KeepsDesign}
use Rattle.bd_symbolic.proofs.Growing.{Grows-trans, KeepsDesign-Grows}
use Rattle.bd_symbolic.proofs.Firsts.{firsts-Extends, firsts_made, state_sorted, state_denotes}
use Rattle.bd_symbolic.proofs.Widening.{widened-once}
use Rattle.bd_symbolic.proofs.first.sym_state.Goals as goal

pub first_inputs-requires-clause-keeps : goal.first_inputs-requires-clause-keeps
first_inputs-requires-clause-keeps c =
    let d = design_view c.args.design.now in
    subst (λ e. KeepsDesign e c.first_entries.new.graph) (sym (widened-once d)) (KeepsDesign-Grows d _ _ c.first_entries.ensures.grows c.requires.keeps)

pub returns-in_err-inputs-clause-grows : goal.returns-in_err-inputs-clause-grows
returns-in_err-inputs-clause-grows c =
    let d = design_view c.args.design.now in
    Grows-trans d _ _ _ c.first_entries.ensures.grows (subst (λ e. GrowsWithin e c.first_entries.new.graph c.first_inputs.new.graph) (widened-once d) c.first_inputs.ensures.grows)

pub returns-clause-sorted : goal.returns-clause-sorted
returns-clause-sorted c =
    state_sorted (design_view c.args.design.now) _ _ (firsts-Extends (λ x. symbol.Entry x) _ _ c.first_inputs.ensures.grows.extends 0 _ _ c.in_ok-entries.ensures.terms) c.in_ok-inputs.ensures.terms

pub returns-clause-denotes : goal.returns-clause-denotes
returns-clause-denotes c =
    state_denotes (design_view c.args.design.now) _ _ (firsts-Extends (λ x. symbol.Entry x) _ _ c.first_inputs.ensures.grows.extends 0 _ _ c.in_ok-entries.ensures.terms) c.in_ok-inputs.ensures.terms

pub returns-clause-grows : goal.returns-clause-grows
returns-clause-grows c =
    let d = design_view c.args.design.now in
    Grows-trans d _ _ _ c.first_entries.ensures.grows (subst (λ e. GrowsWithin e c.first_entries.new.graph c.first_inputs.new.graph) (widened-once d) c.first_inputs.ensures.grows)

pub returns-clause-made : goal.returns-clause-made
returns-clause-made c = record {
  entries = firsts_made (λ x. symbol.Entry x) _ 0 _ _ (firsts-Extends (λ x. symbol.Entry x) _ _ c.first_inputs.ensures.grows.extends 0 _ _ c.in_ok-entries.ensures.terms);
  inputs = firsts_made (λ x. symbol.Input x) _ _ _ _ c.in_ok-inputs.ensures.terms;
}
