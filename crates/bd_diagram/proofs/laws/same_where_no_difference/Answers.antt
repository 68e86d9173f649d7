use Rattle.bd_diagram.proofs.Differing.{no_difference}
use Rattle.bd_diagram.proofs.laws.same_where_no_difference.Goals as goal

pub returns : goal.returns
returns c = no_difference
