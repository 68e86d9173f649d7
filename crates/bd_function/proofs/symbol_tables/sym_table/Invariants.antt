use Rattle.std.proofs.Common.{◌≡◌, map, take}
use Rattle.bd_function.specs.Values.{scalar_of}
use Rattle.bd_function.specs.inner.Scalars.{row_from}
use Rattle.bd_function.proofs.symbol_tables.sym_table.Given as goal

abbrev pub invariant-loop-flat_row : goal.invariant-loop-flat_row
invariant-loop-flat_row l = l.rows.items ≡ map (row_from (scalar_of l.values) l.done) (take l.flat_row-index l.flat_row-items)
