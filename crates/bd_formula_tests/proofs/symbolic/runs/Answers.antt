use Rattle.bd_model.specs.DesignView.{design_view}
use Rattle.bd_symbolic.proofs.Growing.{Grows-trans, KeepsDesign-Grows}
use Rattle.bd_symbolic.proofs.States.{StateHasSorts-count, StateHasSorts-Extends}
use Rattle.bd_formula_tests.proofs.symbolic.runs.Goals as goal

pub sym_step-requires-clause-keeps : goal.sym_step-requires-clause-keeps
sym_step-requires-clause-keeps g c = KeepsDesign-Grows (design_view c.args.design.now) _ _ c.sym_state.ensures.grows c.requires.keeps

pub sym_flush-requires-clause-keeps : goal.sym_flush-requires-clause-keeps
sym_flush-requires-clause-keeps g c = KeepsDesign-Grows (design_view c.args.design.now) _ _ (Grows-trans (design_view c.args.design.now) _ _ _ c.sym_state.ensures.grows c.sym_step.ensures.grows) c.requires.keeps

pub project-requires-clause-entries : goal.project-requires-clause-entries
project-requires-clause-entries g c = StateHasSorts-count (design_view c.args.design.now).pipe _ _ c.in_ok-state.ensures.sorted

pub sym_spec_step-requires-clause-keeps : goal.sym_spec_step-requires-clause-keeps
sym_spec_step-requires-clause-keeps g c =
    let d = design_view c.args.design.now in
    KeepsDesign-Grows d _ _ (Grows-trans d _ _ _ c.sym_state.ensures.grows (Grows-trans d _ _ _ c.sym_step.ensures.grows c.sym_flush.ensures.grows)) c.requires.keeps

pub sym_spec_step-requires-clause-sorted : goal.sym_spec_step-requires-clause-sorted
sym_spec_step-requires-clause-sorted g c =
    let d = design_view c.args.design.now in
    c.in_ok-visible.ensures.sorted _
    (StateHasSorts-Extends d.pipe _ _ _ (Grows-trans d _ _ _ c.sym_step.ensures.grows c.sym_flush.ensures.grows).extends c.in_ok-state.ensures.sorted).entries
