use Rattle.bd_text.proofs.FirstFaults.{one_first}
use Rattle.bd_text.proofs.laws.one_fault.Goals as goal

pub returns : goal.returns
returns c = one_first
