-- Elimination orders (Bryant and Velev 2000: the completed comparison graph; perfect elimination of chordal graphs).
use Rattle.std.specs.Prelude.{◌≢◌, ◌<◌, ℕ, List, AllPairs, Contains, nat_eq}
use Rattle.std.specs.List.{position_or_len}
use Rattle.bd_transitive.specs.Edges.{JoinsAt, AreJoined, IsEnd, AreEdges}
use Rattle.bd_transitive.specs.declared.graph.Order.{Order}

-- the place of a vertex in the order in which vertices are eliminated, from 0
abbrev pub place : List ℕ → ℕ → ℕ
place vertices v = position_or_len (nat_eq v) vertices

-- a later neighbour of v: one that is joined to v, and is eliminated after it
abbrev pub IsLaterNeighbour : Order → ℕ → ℕ → Type 0
IsLaterNeighbour order v a = AreJoined order.edges v a × (place order.vertices v < place order.vertices a)

-- an elimination order: different vertices, and edges between them, where each two later neighbours of a
-- vertex are joined
pub record IsOrder (order : Order) : Type 0 where
  pub vertices : AllPairs (λ v a. v ≢ a) order.vertices
  pub edges : AreEdges order.edges
  pub ends : (v : ℕ) → IsEnd order.edges v → Contains order.vertices v
  pub joined : (v a b : ℕ) → IsLaterNeighbour order v a → IsLaterNeighbour order v b → a ≢ b → AreJoined order.edges a b

-- edge number e joins two later neighbours of some vertex (fill-in of an elimination)
abbrev pub IsFillIn : Order → ℕ → Type 0
IsFillIn order e = (v : ℕ) × (a : ℕ) × (b : ℕ) × JoinsAt order.edges e a b × IsLaterNeighbour order v a × IsLaterNeighbour order v b
