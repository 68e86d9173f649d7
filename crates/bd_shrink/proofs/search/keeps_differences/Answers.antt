use Rattle.bd_model.specs.DesignView.{design_view}
use Rattle.bd_shrink.proofs.Differing.{kept}
use Rattle.bd_shrink.proofs.search.keeps_differences.Goals as goal

pub returns : goal.returns
returns c =
    kept (design_view c.args.question.now.design.now) c.args.question.now.case.now c.args.case.now c.args.question.now.apart.now c.in_ok-apart.apart _ c.alike_where_compared.ensures c.requires.1 c.in_ok-apart.ensures
    c.is_same.ensures
