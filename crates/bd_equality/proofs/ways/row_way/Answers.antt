use Rattle.std.proofs.Common.{option_copied}
use Rattle.bd_equality.proofs.Rowing.{row_first, row_second}
use Rattle.bd_equality.proofs.ways.row_way.Goals as goal

pub returns-in-Some-None : goal.returns-in-Some-None
returns-in-Some-None c =
    row_first c.args.flat.now.graph c.args.flat.now.syms (option_copied c.args.marked) c.in-Some-None.field-0-0 c.args.left c.args.right c.with_variable.result
    (c.row.ensures c.args.flat.now.graph c.args.flat.now.syms (option_copied c.args.marked) c.requires.rows c.in-Some-None.field-0-0 c.in-Some-None.is-0) c.with_variable.ensures

pub returns-in-None-Some : goal.returns-in-None-Some
returns-in-None-Some c =
    row_second c.args.flat.now.graph c.args.flat.now.syms (option_copied c.args.marked) c.in-None-Some.field-0-1 c.args.left c.args.right c.with_variable-in-None-Some.result
    (c.row-2.ensures c.args.flat.now.graph c.args.flat.now.syms (option_copied c.args.marked) c.requires.rows c.in-None-Some.field-0-1 c.in-None-Some.is-1) c.with_variable-in-None-Some.ensures
