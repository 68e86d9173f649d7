use Rattle.std.proofs.Common.{List, drop}
use Rattle.bd_model.specs.declared.table.Slot.{Slot}
use Rattle.bd_shrink.specs.Remnant.{first_fate, after_one, slot_left}
use Rattle.bd_shrink.specs.declared.fate.Fate.{Fate}
use Rattle.bd_shrink.proofs.Left.{IsLeft}
use Rattle.bd_shrink.proofs.remnant.left_of_slots.Given as goal

abbrev pub invariant-loop-slot : goal.invariant-loop-slot
invariant-loop-slot l =
    IsLeft (λ (fs : List Fate) (s : Slot). slot_left (first_fate fs) s) after_one (drop l.fn.at l.fates) l.slots l.left.items (drop l.at l.fates) (drop l.slot-index l.slots)
