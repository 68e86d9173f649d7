use Rattle.std.proofs.Common.{map, ap, ◌∙◌}
use Rattle.bd_model.specs.Abstraction.{values_by}
use Rattle.bd_model.specs.Conditions.{Abstraction}
use Rattle.bd_model.specs.DesignView.{design_view, local_view}
use Rattle.bd_model.specs.ExprView.{expr_views, list_of_views}
use Rattle.bd_sim.proofs.Steps.{joined_commutes}
use Rattle.bd_completion.proofs.judging.commutes.Goals as goal

pub returns : goal.returns
returns c =
    let d = design_view c.args.design.now in
    let abs : Abstraction = values_by (map local_view c.args.lets.now) (list_of_views (expr_views c.args.parts.now)) in
    let k = c.args.case.now in
    joined_commutes d abs k.interp k.state k.inputs c.in_ok-before.before c.in_ok-after.after c.in_ok-before.ensures (c.in_ok-after.ensures ∙ ap (abs k.interp) c.requires.next) c.steps_join.result c.steps_join.ensures
