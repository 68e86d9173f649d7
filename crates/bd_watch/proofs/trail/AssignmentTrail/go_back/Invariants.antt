use Rattle.std.proofs.Common.{◌≡◌, List, [], ◌++◌, length}
use Rattle.bd_watch.specs.Levels.{Assigned, decisions}
use Rattle.bd_watch.proofs.trail.AssignmentTrail.go_back.Given as goal

abbrev pub invariant-loop-last : goal.invariant-loop-last
invariant-loop-last l = record {
  limit : l.self.limit ≡ l.initial.self.limit;
  rest : List Assigned;
  whole : l.initial.self.entries ≡ l.self.entries ++ rest;
  implied : decisions rest ≡ [];
}

abbrev pub decreases-loop-last : goal.decreases-loop-last
decreases-loop-last l = length l.self.entries
