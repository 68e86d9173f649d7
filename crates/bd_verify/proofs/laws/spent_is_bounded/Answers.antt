use Rattle.bd_verify.proofs.KeptDecides.{spent-is-bounded}
use Rattle.bd_verify.proofs.laws.spent_is_bounded.Goals as goal

pub returns : goal.returns
returns c = spent-is-bounded
