use Rattle.std.proofs.Common.{◌∙◌, ap}
use Rattle.std.proofs.lemmas.Result.{IfOk-weaker}
use Rattle.bd_model.specs.Abstraction.{abstraction_of}
use Rattle.bd_model.specs.DesignView.{design_view}
use Rattle.bd_show.proofs.completed.diagram_by.Goals as goal

pub returns : goal.returns
returns c =
    let abs = abstraction_of (design_view c.args.joined.now.design) c.args.joined.now.abs in
    IfOk-weaker c.diagram_between.result _ _ (λ g h. h abs c.in_ok-first.ensures (c.in_ok-stands.ensures ∙ ap (abs c.args.case.now.interp) c.in_ok-next.ensures)) c.diagram_between.ensures
