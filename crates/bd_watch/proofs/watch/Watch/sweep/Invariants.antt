use Rattle.std.proofs.Common.{◌≡◌, ◌<◌, ◌-◌, true, length}
use Rattle.bd_cnf.specs.Trail.{is_false}
use Rattle.bd_watch.specs.Levels.{literals}
use Rattle.bd_watch.specs.Watching.{list_at}
use Rattle.bd_watch.specs.Watch.{IsWatching, Extends}
use Rattle.bd_watch.specs.inner.Visits.{ArePending}
use Rattle.bd_watch.proofs.watch.Watch.sweep.Given as goal

abbrev pub invariant-loop-watcher : goal.invariant-loop-watcher
invariant-loop-watcher l = record {
  watching : IsWatching l.self;
  extends : Extends l.initial.self l.self;
  below : l.lit.var < l.self.trail.limit;
  falsified : is_false (literals l.self.trail.entries) l.lit ≡ true;
  pending : ArePending l.self.clauses l.self.pairs.items (list_at l.self.lists.items l.lit) l.self.trail.entries l.lit l.place;
}

abbrev pub decreases-loop-watcher : goal.decreases-loop-watcher
decreases-loop-watcher l = length (list_at l.self.lists.items l.lit) - l.place
