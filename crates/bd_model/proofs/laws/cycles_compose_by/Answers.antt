use Rattle.bd_model.proofs.Compose.{compose}
use Rattle.bd_model.proofs.laws.cycles_compose_by.Goals as goal

pub returns : goal.returns
returns c = compose
