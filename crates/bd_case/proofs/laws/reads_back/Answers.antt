use Rattle.bd_case.proofs.OneReading.{case_reads}
use Rattle.bd_case.proofs.laws.reads_back.Goals as goal

pub returns : goal.returns
returns c = case_reads
