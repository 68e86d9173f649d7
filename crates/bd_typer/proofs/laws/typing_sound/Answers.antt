use Rattle.bd_typer.proofs.Accepted.{typing_sound}
use Rattle.bd_typer.proofs.laws.typing_sound.Goals as goal

pub returns : goal.returns
returns c = typing_sound
