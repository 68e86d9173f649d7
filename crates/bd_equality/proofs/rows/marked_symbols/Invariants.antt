use Rattle.std.proofs.Common.{option_copied}
use Rattle.bd_equality.proofs.Passing.{AreSaid}
use Rattle.bd_equality.proofs.rows.marked_symbols.Given as goal

abbrev pub invariant-loop-symbol : goal.invariant-loop-symbol
invariant-loop-symbol l = AreSaid l.flat.graph (option_copied l.marked) l.symbol-items l.symbol-index l.symbols.items
