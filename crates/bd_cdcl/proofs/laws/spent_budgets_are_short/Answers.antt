use Rattle.bd_cdcl.proofs.SpentBudgets.{spent_is_short}
use Rattle.bd_cdcl.proofs.laws.spent_budgets_are_short.Goals as goal

pub returns : goal.returns
returns c = spent_is_short
