use Rattle.bd_goal.proofs.Runs.{bounded-decides}
use Rattle.bd_goal.proofs.laws.bounded_decides.Goals as goal

pub returns : goal.returns
returns c = bounded-decides
