use Rattle.std.proofs.Common.{◌≡◌, ◌++◌, drop}
use Rattle.bd_walk.specs.inner.Visits.{entries}
use Rattle.bd_walk.proofs.depth_first.push_all.Given as goal

abbrev pub invariant-loop-index : goal.invariant-loop-index
invariant-loop-index l = l.visits.items ≡ l.initial.visits.items ++ entries (drop l.index l.ids)
