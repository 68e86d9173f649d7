use Rattle.std.proofs.Common.{set, true}
use Rattle.bd_prop.proofs.Naming.{IsFolded}
use Rattle.bd_prop.proofs.reach.mark_named.Given as goal

abbrev pub invariant-loop-item : goal.invariant-loop-item
invariant-loop-item l = IsFolded (λ m c. set m c true) l.initial.marks l.items l.item-index l.marks
