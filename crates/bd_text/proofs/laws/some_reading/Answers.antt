use Rattle.bd_text.proofs.SomeReading.{some_reading-holds}
use Rattle.bd_text.proofs.laws.some_reading.Goals as goal

pub returns : goal.returns
returns c = some_reading-holds
