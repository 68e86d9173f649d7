use Rattle.bd_text.proofs.LaidOutReads.{laid_reads}
use Rattle.bd_text.proofs.laws.reads_layout.Goals as goal

pub returns : goal.returns
returns c = laid_reads
