use Rattle.bd_typer.proofs.Operations.{and-view, or-view}
use Rattle.bd_typer.proofs.operation.build_operator.Goals as goal

pub returns-in-And : goal.returns-in-And
returns-in-And c = rw c.in-And.is (and-view c.args.parts)

pub returns-in-Or : goal.returns-in-Or
returns-in-Or c = rw c.in-Or.is (or-view c.args.parts)
