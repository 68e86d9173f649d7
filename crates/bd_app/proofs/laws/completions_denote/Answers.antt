use Rattle.bd_app.proofs.SomeReading.{some_completion}
use Rattle.bd_app.proofs.laws.completions_denote.Goals as goal

pub returns : goal.returns
returns c = some_completion
