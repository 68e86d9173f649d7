use Rattle.bd_diagram.proofs.Compared.{commutes}
use Rattle.bd_diagram.proofs.laws.commutes_where_same.Goals as goal

pub returns : goal.returns
returns c = commutes
