use Rattle.std.proofs.Common.{◌≡◌, ◌++◌, map, drop}
use Rattle.bd_case.specs.Content.{value_in}
use Rattle.bd_case.proofs.whole.inputs.Given as goal

abbrev pub invariant-loop-table : goal.invariant-loop-table
invariant-loop-table l = l.inputs.items ++ map (value_in l.cycle) (drop l.table-index l.tables) ≡ map (value_in l.cycle) l.tables
