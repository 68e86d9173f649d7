use Rattle.std.proofs.Common.{IfOk, subst, sym}
use Rattle.bd_model.specs.Abstraction.{abstraction_of}
use Rattle.bd_model.specs.Conditions.{JudgedBy}
use Rattle.bd_model.specs.DesignView.{design_view}
use Rattle.bd_completion.proofs.judging.judge_by.Goals as goal

pub returns-in-Given : goal.returns-in-Given
returns-in-Given c =
    let d = design_view c.args.design.now in
    subst (λ abs. IfOk c.judge_given.result (JudgedBy d (abstraction_of d abs) c.args.case.now)) (sym c.in-Given.is) c.judge_given.ensures
