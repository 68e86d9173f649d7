use Rattle.std.proofs.Common.{◌≡◌, map, take}
use Rattle.bd_model.specs.Value.{slot_of}
use Rattle.bd_lift.proofs.build.entry_value.Given as goal

abbrev pub invariant-loop-row : goal.invariant-loop-row
invariant-loop-row l = l.slots.items ≡ map slot_of (take l.row-index l.row-items)
