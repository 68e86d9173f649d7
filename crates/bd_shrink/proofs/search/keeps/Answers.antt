use Rattle.bd_model.specs.DesignView.{design_view}
use Rattle.bd_shrink.proofs.Differing.{keeps_commute}
use Rattle.bd_shrink.proofs.search.keeps.Goals as goal

pub returns-in-Commute : goal.returns-in-Commute
returns-in-Commute c = keeps_commute (design_view c.args.question.now.design.now) c.args.question.now.case.now c.args.case.now c.args.question.now.which _ c.in-Commute.is c.keeps_differences.ensures
