use Rattle.bd_app.proofs.SomeReading.{one_completion}
use Rattle.bd_app.proofs.laws.completions_denote_once.Goals as goal

pub returns : goal.returns
returns c = one_completion
