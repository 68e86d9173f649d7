use Rattle.std.proofs.Common.{◌≡◌, ℕ, true}
use Rattle.std.specs.BTreeSet.{btree_set_len}
use Rattle.bd_transitive.specs.inner.EliminationGraph.{is_left, IsQueued}
use Rattle.bd_transitive.proofs.min_degree.EliminationGraph.next.Given as goal

abbrev pub invariant-loop-degree : goal.invariant-loop-degree
invariant-loop-degree l = record {
  same : l.self.neighbours ≡ l.initial.self.neighbours;
  queued : (v : ℕ) → is_left l.self v ≡ true → IsQueued l.self v;
}

abbrev pub decreases-loop-degree : goal.decreases-loop-degree
decreases-loop-degree l = btree_set_len l.self.queue
