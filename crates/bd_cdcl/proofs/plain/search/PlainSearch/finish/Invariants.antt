use Rattle.std.proofs.Common.{◌+◌, ◌-◌, ◌*◌, ◌≤◌, length}
use Rattle.bd_cdcl.specs.inner.Search.{IsSearching}
use Rattle.bd_cdcl.proofs.plain.search.PlainSearch.finish.Given as goal

abbrev pub invariant-loop-conflict : goal.invariant-loop-conflict
invariant-loop-conflict l = record {
  searching : IsSearching l.problem l.self.clauses.items l.self.trail l.self.learned l.log;
  budgeted : l.self.learned ≤ l.budget;
}

-- the clauses that the budget has left, and then the variables without a value
abbrev pub decreases-loop-conflict : goal.decreases-loop-conflict
decreases-loop-conflict l = (l.budget - l.self.learned) * (l.self.trail.limit + 1) + (l.self.trail.limit - length l.self.trail.entries)
