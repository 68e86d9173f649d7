use Rattle.bd_model.specs.Conditions.{MeetsInvariant}
use Rattle.bd_goal.specs.Formula.{IsOutside}
use Rattle.bd_goal.proofs.Deciding.{decides, meets_from, meets_to}
use Rattle.bd_goal.proofs.laws.meets_decides.Goals as goal

pub returns : goal.returns
returns c = λ d lawful. decides d (IsOutside d) (λ c. MeetsInvariant d c.interp c.state) lawful (meets_from d) (meets_to d)
