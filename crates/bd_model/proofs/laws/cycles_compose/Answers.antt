use Rattle.bd_model.specs.Cycle.{flushed}
use Rattle.bd_model.proofs.Compose.{compose}
use Rattle.bd_model.proofs.laws.cycles_compose.Goals as goal

pub returns : goal.returns
returns c = λ d lawful. compose d (flushed d) lawful
