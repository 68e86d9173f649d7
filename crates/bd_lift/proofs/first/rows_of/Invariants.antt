use Rattle.std.proofs.Common.{◌≡◌, ◌++◌, map}
use Rattle.bd_lift.specs.inner.First.{entry_row}
use Rattle.bd_lift.proofs.first.rows_of.Given as goal

-- the entries that are taken, and the rest after them
abbrev pub invariant-loop-args : goal.invariant-loop-args
invariant-loop-args l = l.rows.items ++ map entry_row l.args-iterator ≡ map entry_row l.fn.first.entries
