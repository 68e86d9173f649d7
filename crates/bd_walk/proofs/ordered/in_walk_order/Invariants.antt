use Rattle.std.proofs.Common.{take}
use Rattle.bd_walk.specs.inner.Carrying.{IsCarrying}
use Rattle.bd_walk.proofs.ordered.in_walk_order.Given as goal

abbrev pub invariant-loop-id : goal.invariant-loop-id
invariant-loop-id l = IsCarrying l.graph l.fn.root (take l.id-index l.id-items) l.ordered l.places.items
