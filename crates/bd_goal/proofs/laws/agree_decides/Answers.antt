use Rattle.bd_goal.specs.Formula.{AgreesAt}
use Rattle.bd_goal.specs.Laws.{Differs}
use Rattle.bd_goal.proofs.Deciding.{decides, differs_from, differs_to}
use Rattle.bd_goal.proofs.laws.agree_decides.Goals as goal

pub returns : goal.returns
returns c = λ d abs lawful. decides d (AgreesAt d abs) (Differs d abs) lawful (differs_from d abs) (differs_to d abs)
