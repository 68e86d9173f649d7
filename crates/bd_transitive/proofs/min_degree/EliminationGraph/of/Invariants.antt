use Rattle.std.proofs.Common.{◌≡◌, ℕ, take}
use Rattle.bd_transitive.specs.Elimination.{joined_by}
use Rattle.bd_transitive.specs.inner.EliminationGraph.{is_end, is_left, is_neighbour, IsSound}
use Rattle.bd_transitive.proofs.min_degree.EliminationGraph.of.Given as goal

abbrev pub invariant-loop-edge : goal.invariant-loop-edge
invariant-loop-edge l = record {
  sound : IsSound l.left;
  left : (v : ℕ) → is_left l.left v ≡ is_end (take l.edge-index l.edges) v;
  joined : (v w : ℕ) → is_neighbour l.left v w ≡ joined_by (take l.edge-index l.edges) v w;
}
