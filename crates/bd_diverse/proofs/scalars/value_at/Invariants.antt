use Rattle.std.proofs.Common.{◌≡◌, drop}
use Rattle.bd_function.specs.Tables.{world_of_tables}
use Rattle.bd_diverse.proofs.scalars.value_at.Given as goal

abbrev pub invariant-loop-table : goal.invariant-loop-table
invariant-loop-table l = world_of_tables l.tables l.sym ≡ world_of_tables (drop l.table-index l.tables) l.sym
