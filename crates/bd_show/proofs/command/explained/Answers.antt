use Rattle.std.proofs.Common.{ap}
use Rattle.clap.specs.Simple.{shape_of_fields}
use Rattle.bd_show.proofs.command.explained.Goals as goal

pub returns-clause-shape : goal.returns-clause-shape
returns-clause-shape c = ap shape_of_fields c.after_help.ensures

pub returns-clause-local : goal.returns-clause-local
returns-clause-local c = ap (λ f. f.has_globals) c.after_help.ensures
