use Rattle.std.proofs.Common.{take}
use Rattle.bd_cnf.specs.Assignment.{value_of}
use Rattle.bd_watch.specs.Levels.{literals}
use Rattle.bd_watch.specs.Trails.{MakesTrue}
use Rattle.bd_watch.proofs.trail.AssignmentTrail.assignment.Given as goal

abbrev pub invariant-loop-entry : goal.invariant-loop-entry
invariant-loop-entry l = MakesTrue (value_of l.assignment) (literals (take l.entry-index l.entry-items))
