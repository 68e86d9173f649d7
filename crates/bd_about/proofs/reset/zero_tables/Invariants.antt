use Rattle.std.proofs.Common.{◌≡◌, map, take}
use Rattle.bd_about.specs.Reset.{zero_table}
use Rattle.bd_about.proofs.reset.zero_tables.Given as goal

abbrev pub invariant-loop-symbol : goal.invariant-loop-symbol
invariant-loop-symbol l = l.tables.items ≡ map zero_table (take l.symbol-index l.symbols)
