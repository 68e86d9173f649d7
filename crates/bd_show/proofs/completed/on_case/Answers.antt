use Rattle.bd_model.specs.Abstraction.{abstraction_of}
use Rattle.bd_model.specs.DesignView.{design_view}
use Rattle.bd_show.proofs.Joins.{outside_judged}
use Rattle.bd_show.proofs.completed.on_case.Goals as goal

pub completed-requires-clause-asked : goal.completed-requires-clause-asked
completed-requires-clause-asked c = λ claims.
    outside_judged (design_view c.args.joined.now.design) (abstraction_of (design_view c.args.joined.now.design) c.args.joined.now.abs) c.args.case.now c.in_ok-judged.judged c.in_ok-judged.ensures
    (λ meets. cc (c.if-branch.false, c.in_ok-is_compared.ensures.outside claims meets))
