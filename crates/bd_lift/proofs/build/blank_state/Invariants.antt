use Rattle.std.proofs.Common.{◌≡◌, [], take}
use Rattle.bd_function.specs.Tables.{world_of_tables}
use Rattle.bd_lift.specs.inner.Built.{state_of}
use Rattle.bd_lift.proofs.build.blank_state.Given as goal

abbrev pub invariant-loop-entry : goal.invariant-loop-entry
invariant-loop-entry l = l.values.items ≡ state_of (world_of_tables []) (take l.entry-index l.entries)
