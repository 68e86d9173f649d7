use Rattle.bd_case.specs.Content.{column}
use Rattle.bd_case.proofs.Inputs.{short_values}
use Rattle.bd_case.proofs.line.push_input.Goals as goal

pub returns-clause-short : goal.returns-clause-short
returns-clause-short c = short_values c.args.port.now.sort (column c.args.i c.args.inputs.now) c.in_ok-push_column.ensures.short
