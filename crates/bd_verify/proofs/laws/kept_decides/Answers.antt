use Rattle.bd_verify.proofs.KeptDecides.{kept-decides}
use Rattle.bd_verify.proofs.laws.kept_decides.Goals as goal

pub returns : goal.returns
returns c = kept-decides
