use Rattle.std.proofs.Common.{◌≡◌, ◌≤◌, length}
use Rattle.bd_model.specs.Table.{read}
use Rattle.bd_sim.specs.inner.Writes.{memory_after, memory_at}
use Rattle.bd_sim.proofs.writes.Memories.read.Given as goal

abbrev pub invariant-loop-write : goal.invariant-loop-write
invariant-loop-write l =
    (l.count ≤ length l.self.writes.items)
    × (read (memory_after l.self l.count l.chain) l.address ≡ read (memory_at l.self l.fn.chain) l.address)

abbrev pub decreases-loop-write : goal.decreases-loop-write
decreases-loop-write l = l.count
