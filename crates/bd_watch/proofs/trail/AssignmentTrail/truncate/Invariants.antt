use Rattle.std.proofs.Common.{◌≡◌, ◌≤◌, ◌-◌, List, ◌++◌, length}
use Rattle.bd_watch.specs.Levels.{Assigned}
use Rattle.bd_watch.proofs.trail.AssignmentTrail.truncate.Given as goal

abbrev pub invariant-loop-self : goal.invariant-loop-self
invariant-loop-self l = record {
  limit : l.self.limit ≡ l.initial.self.limit;
  rest : List Assigned;
  whole : l.initial.self.entries ≡ l.self.entries ++ rest;
  long : l.place ≤ length l.self.entries;
}

abbrev pub decreases-loop-self : goal.decreases-loop-self
decreases-loop-self l = length l.self.entries - l.place
