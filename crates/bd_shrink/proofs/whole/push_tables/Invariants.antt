use Rattle.std.proofs.Common.{◌≡◌, ◌++◌, drop}
use Rattle.std.specs.List.{flat_map}
use Rattle.bd_shrink.specs.inner.Whole.{stay_table}
use Rattle.bd_shrink.proofs.whole.push_tables.Given as goal

abbrev pub invariant-loop-table : goal.invariant-loop-table
invariant-loop-table l = l.fates.items ++ flat_map stay_table (drop l.table-index l.tables) ≡ l.fn.fates.items ++ flat_map stay_table l.tables
