use Rattle.std.proofs.Common.{take}
use Rattle.bd_watch.specs.Levels.{literals}
use Rattle.bd_watch.specs.inner.Visits.{AreFalseBesides}
use Rattle.bd_watch.proofs.watch.replacement.Given as goal

abbrev pub invariant-loop-packed : goal.invariant-loop-packed
invariant-loop-packed l = AreFalseBesides (literals l.trail.entries) (take l.packed-index l.clause) l.other
