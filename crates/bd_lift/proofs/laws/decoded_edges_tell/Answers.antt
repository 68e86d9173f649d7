use Rattle.bd_lift.proofs.Deciding.{decoded-edges}
use Rattle.bd_lift.proofs.laws.decoded_edges_tell.Goals as goal

pub returns : goal.returns
returns c = decoded-edges
