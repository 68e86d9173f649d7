-- Simple graphs as lists of edges, each between two vertices.
use Rattle.std.specs.Prelude.{◌≡◌, ◌≢◌, ◌⊎◌, ℕ, List, All, AllPairs, IsSomeAnd, slice_get}
use Rattle.bd_transitive.specs.declared.graph.Edge.{Edge}

-- the edge joins the two vertices, either way round
abbrev pub Joins : Edge → ℕ → ℕ → Type 0
Joins edge a b = ((edge.from ≡ a) × (edge.to ≡ b)) ⊎ ((edge.from ≡ b) × (edge.to ≡ a))

-- edge number e, from 0, joins the two vertices
abbrev pub JoinsAt : List Edge → ℕ → ℕ → ℕ → Type 0
JoinsAt edges e a b = IsSomeAnd (slice_get edges e) (λ edge. Joins edge a b)

-- some edge joins the two vertices
abbrev pub AreJoined : List Edge → ℕ → ℕ → Type 0
AreJoined edges a b = (e : ℕ) × JoinsAt edges e a b

-- the vertex is an end of some edge
abbrev pub IsEnd : List Edge → ℕ → Type 0
IsEnd edges v = (a : ℕ) × AreJoined edges v a

-- the edges of a simple graph: each joins two different vertices, and no two edges join the same two
pub record AreEdges (edges : List Edge) : Type 0 where
  pub different : All (λ edge. edge.from ≢ edge.to) edges
  pub once : AllPairs (λ edge other. ¬ Joins edge other.from other.to) edges
