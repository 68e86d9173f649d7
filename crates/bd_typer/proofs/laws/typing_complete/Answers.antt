use Rattle.bd_typer.proofs.Complete.{typing_complete}
use Rattle.bd_typer.proofs.laws.typing_complete.Goals as goal

pub returns : goal.returns
returns c = typing_complete
