use Rattle.bd_diverse.proofs.Deciding.{diverse-decides}
use Rattle.bd_diverse.proofs.laws.diverse_decides.Goals as goal

pub returns : goal.returns
returns c = diverse-decides
