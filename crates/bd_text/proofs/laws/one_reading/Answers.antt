use Rattle.bd_text.proofs.Unique.{one_reading-holds}
use Rattle.bd_text.proofs.laws.one_reading.Goals as goal

pub returns : goal.returns
returns c = one_reading-holds
