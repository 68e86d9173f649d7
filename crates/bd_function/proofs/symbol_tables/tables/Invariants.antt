use Rattle.std.proofs.Common.{◌≡◌, map, take}
use Rattle.bd_function.specs.Values.{scalar_of}
use Rattle.bd_function.specs.inner.Scalars.{sym_table_from}
use Rattle.bd_function.proofs.symbol_tables.tables.Given as goal

abbrev pub invariant-loop-sym : goal.invariant-loop-sym
invariant-loop-sym l = l.tables.items ≡ map (sym_table_from (scalar_of l.values) l.scalars.items) (take l.sym-index l.sym-items)
