use Rattle.std.proofs.Common.{◌≤◌}
use Rattle.bd_cdcl.specs.inner.Descents.{IsDescending, to_go}
use Rattle.bd_cdcl.proofs.cdcl.search.CompleteSearch.finish.Given as goal

abbrev pub invariant-loop-search : goal.invariant-loop-search
invariant-loop-search l = record {
  descending : IsDescending l.problem l.search l.log;
  budgeted : l.search.learned ≤ l.budget;
}

abbrev pub decreases-loop-search : goal.decreases-loop-search
decreases-loop-search l = to_go l.budget l.search
