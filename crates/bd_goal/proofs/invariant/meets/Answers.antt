use Rattle.bd_model.specs.DesignView.{design_view}
use Rattle.bd_symbolic.specs.DesignSymbols.{GrowsWithin}
use Rattle.bd_symbolic.proofs.Growing.{Grows-none, Grows-trans, KeepsDesign-Grows}
use Rattle.bd_goal.specs.Claims.{case_world}
use Rattle.bd_terms.specs.declared.node.Node.TheVariants as node
use Rattle.std.proofs.lemmas.Result.{IfOk-weaker}
use Rattle.bd_terms.proofs.Growth.{Extends-trans}
use Rattle.bd_symbolic.proofs.Making.{called, first_state-Extends}
use Rattle.bd_goal.proofs.Making.{invariant-Extends}
use Rattle.bd_goal.proofs.Known.{KeepsDesign-empty, Reaches-within}
use Rattle.bd_goal.proofs.Standing.{outside-claimed}
use Rattle.bd_goal.proofs.invariant.meets.Goals as goal

pub sym_state-requires-clause-keeps : goal.sym_state-requires-clause-keeps
sym_state-requires-clause-keeps c = KeepsDesign-empty (design_view c.args.design.now) _ c.requires.empty

pub invariant-requires-clause-keeps : goal.invariant-requires-clause-keeps
invariant-requires-clause-keeps c =
    let d = design_view c.args.design.now in
    KeepsDesign-Grows d _ _ c.sym_state.ensures.grows (KeepsDesign-empty d _ c.requires.empty)

pub returns-in_err-inside-clause-grows : goal.returns-in_err-inside-clause-grows
returns-in_err-inside-clause-grows c = Grows-trans (design_view c.args.design.now) _ _ _ c.sym_state.ensures.grows c.invariant.ensures.grows

pub returns-clause-denotes : goal.returns-clause-denotes
returns-clause-denotes c =
    outside-claimed (design_view c.args.design.now) c.invariant.new.graph c.mk_not.new.self c.in_ok-inside.inside _
    (λ x q fits. c.in_ok-inside.ensures.says (case_world x q) x.interp x.state x.inputs (c.in_ok-state.ensures.denotes.denotes x q fits)) c.mk_not.ensures.denotes

pub returns-clause-symbols : goal.returns-clause-symbols
returns-clause-symbols c =
    let d = design_view c.args.design.now in
    let grows : GrowsWithin d c.args.graph.now c.mk_not.new.self =
    Grows-trans d _ _ _ c.sym_state.ensures.grows (Grows-trans d _ _ _ c.invariant.ensures.grows (Grows-none d _ _ c.mk_not.ensures.extends c.mk_not.ensures.uses)) in
    Reaches-within d _ _ _ c.requires.empty grows

pub returns-clause-grows : goal.returns-clause-grows
returns-clause-grows c =
    let d = design_view c.args.design.now in
    Grows-trans d _ _ _ c.sym_state.ensures.grows (Grows-trans d _ _ _ c.invariant.ensures.grows (Grows-none d _ _ c.mk_not.ensures.extends c.mk_not.ensures.uses))

pub returns-clause-made : goal.returns-clause-made
returns-clause-made c =
    let d = design_view c.args.design.now in
    IfOk-weaker c.mk_not.result _ _ (λ id k. record {
      state = c.in_ok-state.state;
      inside = c.in_ok-inside.inside;
      is_first = first_state-Extends _ _ (Extends-trans _ _ _ c.invariant.ensures.grows.extends c.mk_not.ensures.extends) d c.in_ok-state.state c.in_ok-state.ensures.made;
      is_inside = invariant-Extends _ _ c.mk_not.ensures.extends d c.in_ok-state.state c.in_ok-inside.inside c.in_ok-inside.ensures.made;
      denied = k;
    })
    (called _ _ (node.Not c.in_ok-inside.inside) c.mk_not.result (c.in_ok-inside.ensures.sorted.inside, tt) c.mk_not.ensures.simplified)
