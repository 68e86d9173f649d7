use Rattle.std.proofs.Common.{option_copied}
use Rattle.bd_equality.proofs.Passing.{AreMarkedRows}
use Rattle.bd_equality.proofs.rows.is_marked_symbol.Given as goal

abbrev pub invariant-loop-row : goal.invariant-loop-row
invariant-loop-row l = AreMarkedRows l.flat.graph (option_copied l.marked) l.row-items l.row-index
