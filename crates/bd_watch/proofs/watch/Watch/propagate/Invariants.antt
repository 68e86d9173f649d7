use Rattle.std.proofs.Common.{◌≡◌, ◌≤◌, ◌-◌, length, take}
use Rattle.bd_watch.specs.Watch.{IsWatching}
use Rattle.bd_watch.proofs.watch.Watch.propagate.Given as goal

abbrev pub invariant-loop-lit : goal.invariant-loop-lit
invariant-loop-lit l = record {
  watching : IsWatching l.self;
  clauses : l.self.clauses ≡ l.initial.self.clauses;
  limit : l.self.trail.limit ≡ l.initial.self.trail.limit;
  longer : length l.initial.self.trail.entries ≤ length l.self.trail.entries;
  kept : take (length l.initial.self.trail.entries) l.self.trail.entries ≡ l.initial.self.trail.entries;
}

abbrev pub decreases-loop-lit : goal.decreases-loop-lit
decreases-loop-lit l = l.self.trail.limit - l.self.head
