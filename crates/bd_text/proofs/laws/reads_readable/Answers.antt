use Rattle.bd_text.proofs.Readable.{spelled_readable}
use Rattle.bd_text.proofs.laws.reads_readable.Goals as goal

pub returns : goal.returns
returns c = spelled_readable
