use Rattle.bd_typer.proofs.Operations.{apply-view}
use Rattle.bd_typer.proofs.operation.build.Goals as goal

pub returns-in-Apply : goal.returns-in-Apply
returns-in-Apply c = rw c.in-Apply.is (apply-view c.in-Apply.symbol c.args.parts)
