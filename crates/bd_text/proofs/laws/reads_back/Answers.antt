use Rattle.bd_text.proofs.WrittenReads.{written_reads}
use Rattle.bd_text.proofs.laws.reads_back.Goals as goal

pub returns : goal.returns
returns c = written_reads
