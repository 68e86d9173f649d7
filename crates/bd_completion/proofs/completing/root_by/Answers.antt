use Rattle.std.proofs.Common.{true, false, sym, subst}
use Rattle.bd_model.specs.Abstraction.{abstraction_view}
use Rattle.bd_model.specs.DesignView.{design_view}
use Rattle.bd_completion.specs.Kept.{IsRootBy}
use Rattle.bd_completion.proofs.Roots.{made_root}
use Rattle.bd_completion.proofs.completing.root_by.Goals as goal

pub returns-in_ok-agreement : goal.returns-in_ok-agreement
returns-in_ok-agreement c =
    let d = design_view c.args.design.now in
    let root = c.in_ok-agreement.agreement.root in
    let is = c.in_ok-agreement.ensures in
    subst (λ agree. IsRootBy d (abstraction_view c.args.abs.now) agree c.agree_goal.new.graph root) (sym c.if-agree.true)
    (made_root d c.args.abs.now true c.agree_goal.new.graph root c.in_ok-agreement.agreement.addresses is.sorted is.denotes is.made is.addresses is.symbols)

pub returns-in_ok-correspondence : goal.returns-in_ok-correspondence
returns-in_ok-correspondence c =
    let d = design_view c.args.design.now in
    let root = c.in_ok-correspondence.correspondence.root in
    let is = c.in_ok-correspondence.ensures in
    subst (λ agree. IsRootBy d (abstraction_view c.args.abs.now) agree c.goal_by.new.graph root) (sym c.if-agree.false)
    (made_root d c.args.abs.now false c.goal_by.new.graph root c.in_ok-correspondence.correspondence.addresses is.sorted is.denotes is.made is.addresses is.symbols)
