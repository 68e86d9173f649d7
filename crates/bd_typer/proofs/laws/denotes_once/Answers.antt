use Rattle.bd_typer.proofs.DenotesOnce.{denotes_once}
use Rattle.bd_typer.proofs.laws.denotes_once.Goals as goal

pub returns : goal.returns
returns c = denotes_once
