use Rattle.std.proofs.Common.{◌≡◌, ℕ, true, false, nat_eq, take}
use Rattle.std.specs.HashMap.{hash_map_len}
use Rattle.std.specs.Set.{is_member}
use Rattle.bd_transitive.specs.inner.EliminationGraph.{is_left, is_neighbour, neighbours, rejoined, IsSound}
use Rattle.bd_transitive.proofs.min_degree.EliminationGraph.join.Given as goal

abbrev pub invariant-loop-vertex : goal.invariant-loop-vertex
invariant-loop-vertex l = record {
  sound : IsSound l.self;
  left : (v : ℕ) → is_left l.self v ≡ is_left l.initial.self v;
  joined : (v : ℕ) → is_member nat_eq (take l.vertex-index l.own) v ≡ true → (w : ℕ) → is_neighbour l.self v w ≡ rejoined (is_neighbour l.initial.self v) l.own l.gone v w;
  others : (v : ℕ) → is_member nat_eq (take l.vertex-index l.own) v ≡ false → neighbours l.self v ≡ neighbours l.initial.self v;
  count : hash_map_len l.self.neighbours ≡ hash_map_len l.initial.self.neighbours;
}
