-- What contracts see of trees: S-expressions (McCarthy, 1960), with the offsets where they stand.
use Rattle.std.specs.Prelude.{ℕ, zero, suc, ◌+◌, List, Option, Some, None}

mutual
  pub data Node : Type 0 where
    -- the offset of an atom's first byte, and its bytes
    atom : ℕ → List ℕ → Node
    -- the offset of a list's parenthesis, and its parts
    list : ℕ → Nodes → Node

  pub data Nodes : Type 0 where
    no_nodes : Nodes
    node : Node → Nodes → Nodes

-- how many there are
abbrev pub node_count : Nodes → ℕ
node_count no_nodes = 0
node_count (node t ts) = 1 + node_count ts

-- the node at an index
abbrev pub node_at : Nodes → ℕ → Option Node
node_at no_nodes i = None
node_at (node t ts) zero = Some t
node_at (node t ts) (suc i) = node_at ts i

-- with a further node at the end
abbrev pub add_node : Nodes → Node → Nodes
add_node no_nodes t = node t no_nodes
add_node (node u us) t = node u (add_node us t)
