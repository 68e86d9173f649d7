use Rattle.bd_verify.proofs.KeptDecides.{positive-have-no-edge}
use Rattle.bd_verify.proofs.laws.positive_have_no_edge.Goals as goal

pub returns : goal.returns
returns c = positive-have-no-edge
