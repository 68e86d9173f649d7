use Rattle.std.proofs.Common.{◌≡◌, ◌≤◌, ◌-◌, length}
use Rattle.bd_lrat.specs.Database.{numbered}
use Rattle.bd_watch.specs.Levels.{IsComplete}
use Rattle.bd_cdcl.proofs.plain.propagation.propagate.Given as goal

abbrev pub invariant-loop-id : goal.invariant-loop-id
invariant-loop-id l = record {
  limit : l.trail.limit ≡ l.initial.trail.limit;
  complete : IsComplete (numbered l.clauses) l.trail.entries;
  longer : length l.initial.trail.entries ≤ length l.trail.entries;
}

abbrev pub decreases-loop-id : goal.decreases-loop-id
decreases-loop-id l = l.trail.limit - length l.trail.entries
