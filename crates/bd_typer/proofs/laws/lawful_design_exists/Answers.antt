use Rattle.bd_typer.proofs.SmallDesign.{lawful_design_exists}
use Rattle.bd_typer.proofs.laws.lawful_design_exists.Goals as goal

pub returns : goal.returns
returns c = lawful_design_exists
