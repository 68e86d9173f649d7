use Rattle.bd_lrat.proofs.Examples.{not_both_settled}
use Rattle.bd_lrat.proofs.laws.reached_decision_settles.Goals as goal

pub returns : goal.returns
returns c = not_both_settled
