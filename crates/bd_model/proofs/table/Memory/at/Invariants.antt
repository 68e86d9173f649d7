use Rattle.std.proofs.Common.{◌≡◌, drop}
use Rattle.bd_model.specs.Table.{read, slot_value}
use Rattle.bd_model.proofs.table.Memory.at.Given as goal

abbrev pub invariant-loop-slot : goal.invariant-loop-slot
invariant-loop-slot l = slot_value (drop l.slot-index l.slot-items) l.addr l.self.default ≡ read l.self l.addr
