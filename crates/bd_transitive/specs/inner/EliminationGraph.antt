-- The vertices that are left while an order is made, with their neighbours, and a queue by how many these are.
use Rattle.std.specs.Prelude.{◌≡◌, ◌&&◌, ◌||◌, ◌==◌, not, ℕ, Bool, true, List, [], Option, None, Some, is_some, length, nat_eq}
use Rattle.std.specs.declared.cmp.Ordering.{Ordering}
use Rattle.std.specs.Ordering.{nat_cmp, ordering_then}
use Rattle.std.specs.HashMap.{get}
use Rattle.std.specs.HashSet.{HashSet}
use Rattle.std.specs.BTreeSet.{contains}
use Rattle.std.specs.List.{IsDistinct, list_any}
use Rattle.std.specs.Set.{is_member}
use Rattle.bd_transitive.specs.declared.graph.Edge.{Edge}
use Rattle.bd_transitive.specs.declared.min_degree.EliminationGraph.{EliminationGraph}

-- whether the vertex is an end of an edge
abbrev pub is_end : List Edge → ℕ → Bool
is_end edges v = list_any (λ e. (e.from == v) || (e.to == v)) edges

abbrev pub keys_of : {S : Type 0} → Option (HashSet ℕ S) → List ℕ
keys_of None = []
keys_of (Some s) = s.keys

-- whether a vertex is left
abbrev pub is_left : EliminationGraph → ℕ → Bool
is_left l v = is_some (get nat_eq l.neighbours v)

-- its neighbours
abbrev pub neighbours : EliminationGraph → ℕ → List ℕ
neighbours l v = keys_of (get nat_eq l.neighbours v)

-- whether the other one is among its neighbours
abbrev pub is_neighbour : EliminationGraph → ℕ → ℕ → Bool
is_neighbour l v w = is_member nat_eq (neighbours l v) w

-- by degree, and then by number
abbrev pub entry_cmp : ℕ × ℕ → ℕ × ℕ → Ordering
entry_cmp x y = ordering_then (nat_cmp x.0 y.0) (nat_cmp x.1 y.1)

-- the vertex stands in the queue by how many neighbours it has
abbrev pub IsQueued : EliminationGraph → ℕ → Type 0
IsQueued l v = contains entry_cmp l.queue (length (neighbours l v), v) ≡ true

-- no vertex has a neighbour twice, and each that is left stands in the queue
pub record IsSound (l : EliminationGraph) : Type 0 where
  pub distinct : (v : ℕ) → IsDistinct nat_eq (neighbours l v)
  pub queued : (v : ℕ) → is_left l v ≡ true → IsQueued l v

-- the neighbours of a vertex once one of them is eliminated: the others, and that one's own but the vertex
abbrev pub rejoined : (ℕ → Bool) → List ℕ → ℕ → ℕ → ℕ → Bool
rejoined before own gone v w = (before w && not (gone == w)) || (is_member nat_eq own w && not (v == w))
