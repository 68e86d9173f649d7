use Rattle.bd_diagram.proofs.Found.{found}
use Rattle.bd_diagram.proofs.laws.addresses_found.Goals as goal

pub returns : goal.returns
returns c = found
