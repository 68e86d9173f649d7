use Rattle.bd_case.proofs.OneReading.{trail_reads}
use Rattle.bd_case.proofs.laws.trail_reads_back.Goals as goal

pub returns : goal.returns
returns c = trail_reads
