use Rattle.bd_syntax.proofs.Limits.{spelled_within_limits}
use Rattle.bd_syntax.proofs.laws.reads_within_limits.Goals as goal

pub returns : goal.returns
returns c = spelled_within_limits
