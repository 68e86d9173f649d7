use Rattle.std.proofs.Common.{take}
use Rattle.bd_cdcl.specs.inner.Analyses.{IsSecond}
use Rattle.bd_cdcl.proofs.cdcl.learn.last_falsified.Given as goal

abbrev pub invariant-loop-other : goal.invariant-loop-other
invariant-loop-other l = IsSecond l.watch.trail.entries (take l.other-index l.rest) (record { literal = l.literal; floor = l.floor })
