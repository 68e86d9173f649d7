use Rattle.std.proofs.Common.{◌≡◌, ◌≤◌, length}
use Rattle.bd_sim.specs.inner.Writes.{memory_after, memory_at, with_slots}
use Rattle.bd_sim.proofs.writes.Memories.whole.Given as goal

abbrev pub invariant-loop-write : goal.invariant-loop-write
invariant-loop-write l =
    (l.count ≤ length l.self.writes.items)
    × (with_slots l.slots.items (memory_after l.self l.count l.chain) ≡ memory_at l.self l.fn.chain)

abbrev pub decreases-loop-write : goal.decreases-loop-write
decreases-loop-write l = l.count
