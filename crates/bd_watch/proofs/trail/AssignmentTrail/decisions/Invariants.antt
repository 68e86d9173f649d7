use Rattle.std.proofs.Common.{◌≡◌, take}
use Rattle.bd_watch.specs.Levels.{decisions}
use Rattle.bd_watch.proofs.trail.AssignmentTrail.decisions.Given as goal

abbrev pub invariant-loop-entry : goal.invariant-loop-entry
invariant-loop-entry l = l.found.items ≡ decisions (take l.entry-index l.entry-items)
