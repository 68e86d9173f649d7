use Rattle.bd_transitive.proofs.Meeting.{meets_alike}
use Rattle.bd_transitive.proofs.laws.meets_by_edges.Goals as goal

pub returns : goal.returns
returns c = meets_alike
