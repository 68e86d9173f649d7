use Rattle.std.proofs.Common.{take}
use Rattle.bd_cdcl.specs.inner.Analysis.{Marks}
use Rattle.bd_cdcl.proofs.cdcl.analyze.mark.Given as goal

abbrev pub invariant-loop-packed : goal.invariant-loop-packed
invariant-loop-packed l = Marks l.watch.trail.entries (take l.packed-index l.clause) l.initial.marks.items l.marks.items
