use Rattle.bd_goal.specs.Formula.{Corresponds}
use Rattle.bd_goal.specs.Laws.{BreaksSome}
use Rattle.bd_goal.proofs.Deciding.{decides, breaks_from, breaks_to}
use Rattle.bd_goal.proofs.laws.goal_decides.Goals as goal

pub returns : goal.returns
returns c = λ d abs lawful. decides d (Corresponds d abs) (BreaksSome d abs) lawful (breaks_from d abs) (breaks_to d abs)
