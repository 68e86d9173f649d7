use Rattle.bd_text.specs.Faults.{IsFirstFault}
use Rattle.bd_text.specs.View.{nodes_of}
use Rattle.bd_typer.proofs.Files.{text_fault}
use Rattle.bd_typer.proofs.design.trees.Goals as goal

pub returns-in-Ok-clause-limits : goal.returns-in-Ok-clause-limits
returns-in-Ok-clause-limits c = c.reads_within_limits.ensures c.args.bytes.now (nodes_of c.in-Ok.trees) c.requires c.in-Ok.ensures.no_fault c.in-Ok.ensures.trees

pub returns-in-Err-clause-fault : goal.returns-in-Err-clause-fault
returns-in-Err-clause-fault c = rw c.text_located.ensures (text_fault c.args.file c.in-Err.fault (IsFirstFault c.args.bytes.now) c.in-Err.ensures.fault)
