use Rattle.std.proofs.Common.{◌≡◌, IfOk, subst, sym}
use Rattle.bd_model.specs.Abstraction.{IsLawfulAbstraction, abstraction_of}
use Rattle.bd_model.specs.DesignView.{design_view}
use Rattle.bd_show.proofs.completed.stands_for.Goals as goal

pub values_given-requires-clause-let_limits : goal.values_given-requires-clause-let_limits
values_given-requires-clause-let_limits c =
    (subst (IsLawfulAbstraction (design_view c.args.joined.now.design)) c.in-Given.is c.requires.abstraction).let_limits

pub values_given-requires-clause-limits : goal.values_given-requires-clause-limits
values_given-requires-clause-limits c =
    (subst (IsLawfulAbstraction (design_view c.args.joined.now.design)) c.in-Given.is c.requires.abstraction).part_limits

pub returns-in-Given : goal.returns-in-Given
returns-in-Given c =
    let d = design_view c.args.joined.now.design in
    subst (λ abs. IfOk c.values_given.result (λ visible. visible ≡ abstraction_of d abs c.args.case.now.interp c.args.state.now)) (sym c.in-Given.is) c.values_given.ensures
