use Rattle.std.proofs.Common.{◌≡◌, [], take, length}
use Rattle.bd_function.specs.Tables.{world_of_tables}
use Rattle.bd_lift.specs.inner.Built.{functions_of}
use Rattle.bd_lift.proofs.build.blank_interp.Given as goal

abbrev pub invariant-loop-place : goal.invariant-loop-place
invariant-loop-place l = l.tables.items ≡ functions_of (length l.vertices) (world_of_tables []) (take l.place l.symbols)
