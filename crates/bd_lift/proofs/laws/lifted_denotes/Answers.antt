use Rattle.bd_lift.proofs.Denoting.{lifted-denotes}
use Rattle.bd_lift.proofs.laws.lifted_denotes.Goals as goal

pub returns : goal.returns
returns c = lifted-denotes
