use Rattle.std.proofs.Common.{◌+◌, ◌-◌, length}
use Rattle.bd_memory.proofs.Waiting.{missing}
use Rattle.bd_memory.proofs.Loop.{IsReading}
use Rattle.bd_memory.proofs.forwarding.Forwarding.read.Given as goal

abbrev pub ghost-read_from_below : goal.ghost-read_from_below
ghost-read_from_below g a = g.root

abbrev pub invariant-loop-waiting : goal.invariant-loop-waiting
invariant-loop-waiting g l =
    IsReading l.old g.root l.initial.self.places.items l.self l.address l.fn.memory l.waiting.items l.here

abbrev pub decreases-loop-waiting : goal.decreases-loop-waiting
decreases-loop-waiting g l = missing l.self.reads l.address (length l.initial.self.places.items) + missing l.self.reads l.address (length l.initial.self.places.items) + (length l.initial.self.places.items - length l.waiting.items)
