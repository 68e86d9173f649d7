use Rattle.std.proofs.Common.{sym, subst}
use Rattle.std.specs.Prelude.{IfOk}
use Rattle.bd_model.specs.DesignView.{design_view}
use Rattle.bd_model.specs.Abstraction.{abstraction_of}
use Rattle.bd_model.specs.declared.abstraction.Abstraction.{Abstraction}
use Rattle.std.proofs.lemmas.Result.{IfOk-weaker}
use Rattle.bd_goal.specs.Made.{AreVisible}
use Rattle.bd_goal.specs.inner.Shown.{StandsFor}
use Rattle.bd_goal.proofs.Standing.{entry-count, flushing-stood}
use Rattle.bd_goal.proofs.abstracted.abstracted.Goals as goal

pub project-requires-clause-entries : goal.project-requires-clause-entries
project-requires-clause-entries c = entry-count (design_view c.args.design.now) _ _ c.in_ok-flushed-in-Flushing.ensures.sorted

pub returns-in_ok-flushed-in-Flushing-clause-shown : goal.returns-in_ok-flushed-in-Flushing-clause-shown
returns-in_ok-flushed-in-Flushing-clause-shown c =
    let d = design_view c.args.design.now in
    subst (λ (a : Abstraction). IfOk c.project.result (λ visible. StandsFor d c.args.graph.now c.sym_flush.new.graph c.args.state.now (abstraction_of d a) visible)) (sym c.in-Flushing.is)
    (flushing-stood d _ _ c.args.state.now _ _ c.in_ok-flushed-in-Flushing.ensures.sorted c.in_ok-flushed-in-Flushing.ensures.denotes c.project.ensures.inputs c.project.ensures.sorted c.project.ensures.denotes)

pub returns-in_ok-flushed-in-Flushing-clause-made : goal.returns-in_ok-flushed-in-Flushing-clause-made
returns-in_ok-flushed-in-Flushing-clause-made c =
    let d = design_view c.args.design.now in
    subst (λ (a : Abstraction). IfOk c.project.result (λ visible. AreVisible c.sym_flush.new.graph d a c.args.state.now visible.entries)) (sym c.in-Flushing.is)
    (IfOk-weaker c.project.result _ _ (λ visible h. (c.in_ok-flushed-in-Flushing.flushed.entries, c.in_ok-flushed-in-Flushing.ensures.made, h)) c.project.ensures.made)
