use Rattle.std.proofs.Common.{◌≤◌}
use Rattle.bd_cdcl.specs.inner.Analysis.{AreUnmarked}
use Rattle.bd_cdcl.proofs.cdcl.analyze.any_marked.Given as goal

abbrev pub invariant-loop-place : goal.invariant-loop-place
invariant-loop-place l = record {
  within : l.place ≤ l.end;
  none : AreUnmarked l.marks l.place l.end;
}

abbrev pub decreases-loop-place : goal.decreases-loop-place
decreases-loop-place l = l.place
