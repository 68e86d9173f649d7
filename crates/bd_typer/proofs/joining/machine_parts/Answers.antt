use Rattle.std.proofs.Common.{refl}
use Rattle.bd_typer.proofs.Operations.{nexts-view}
use Rattle.bd_typer.proofs.joining.machine_parts.Goals as goal

pub returns-clause-machine : goal.returns-clause-machine
returns-clause-machine c = λ symbols. rw (nexts-view c.args.machine.typed.nexts) refl
