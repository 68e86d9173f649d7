use Rattle.std.proofs.Common.{◌≡◌, map, take}
use Rattle.bd_diverse.specs.inner.Rows.{start_table}
use Rattle.bd_diverse.proofs.adding.start.Given as goal

abbrev pub invariant-loop-table : goal.invariant-loop-table
invariant-loop-table l = l.started.items ≡ map start_table (take l.table-index l.tables)
