use Rattle.std.proofs.Common.{◌≡◌, ◌++◌, map, drop}
use Rattle.bd_model.specs.Value.{slot_of}
use Rattle.bd_case.proofs.whole.slots.Given as goal

abbrev pub invariant-loop-row : goal.invariant-loop-row
invariant-loop-row l = l.slots.items ++ map slot_of (drop l.row-index l.row-items) ≡ map slot_of l.row-items
