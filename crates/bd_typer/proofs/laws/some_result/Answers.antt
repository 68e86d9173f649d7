use Rattle.bd_typer.proofs.SomeResult.{some_result}
use Rattle.bd_typer.proofs.laws.some_result.Goals as goal

pub returns : goal.returns
returns c = some_result
