use Rattle.std.proofs.Common.{◌≡◌}
use Rattle.bd_watch.specs.inner.Loading.{IsStarting}
use Rattle.bd_watch.proofs.watch.Watch.assign_units.Given as goal

abbrev pub invariant-loop-place : goal.invariant-loop-place
invariant-loop-place l = record {
  clauses : l.self.clauses ≡ l.initial.self.clauses;
  limit : l.self.trail.limit ≡ l.initial.self.trail.limit;
  starting : IsStarting l.self l.place;
}
