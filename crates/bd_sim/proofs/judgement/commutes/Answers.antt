use Rattle.std.proofs.Common.{ap, ◌∙◌}
use Rattle.bd_model.specs.Cycle.{flushed}
use Rattle.bd_model.specs.DesignView.{design_view}
use Rattle.bd_sim.proofs.Steps.{joined_commutes}
use Rattle.bd_sim.proofs.judgement.commutes.Goals as goal

pub returns : goal.returns
returns c =
    let d = design_view c.args.design.now in
    let k = c.args.case.now in
    joined_commutes d (flushed d) k.interp k.state k.inputs c.in_ok-before.before c.in_ok-after.after c.in_ok-before.ensures (c.in_ok-after.ensures ∙ ap (flushed d k.interp) c.requires.next) c.steps_join.result c.steps_join.ensures
