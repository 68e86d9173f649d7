-- Truth graphs: lists of nodes in which children stand before parents and no node stands twice.
use Rattle.std.specs.Prelude.{◌≡◌, ℕ, ◌<◌, List, ◌++◌, Some, slice_get, All, Contains}
use Rattle.bd_prop.specs.declared.node.PropNode.{PropNode}
use Rattle.bd_prop.specs.Node.{children}

-- each child of the node stands before n
abbrev pub IsBelow : ℕ → PropNode → Type 0
IsBelow n node = All (λ c. c < n) (children node)

-- the node stands at the id
abbrev pub StandsAt : List PropNode → ℕ → PropNode → Type 0
StandsAt nodes id node = slice_get nodes id ≡ Some node

-- children stand before their parents
abbrev pub IsGraph : List PropNode → Type 0
IsGraph nodes = (id : ℕ) (node : PropNode) → StandsAt nodes id node → IsBelow id node

-- equal nodes have one id
abbrev pub HasOneId : List PropNode → Type 0
HasOneId nodes = (i j : ℕ) (node : PropNode) → StandsAt nodes i node → StandsAt nodes j node → i ≡ j

-- the first list is the front of the second
abbrev pub Extends : List PropNode → List PropNode → Type 0
Extends old new = (more : List PropNode) × (new ≡ old ++ more)

-- the root is the node, or has a child that reaches it
pub data Reaches (nodes : List PropNode) (root : ℕ) : ℕ → Type 0 where
  Itself : Reaches nodes root root
  Below : (id child : ℕ) (node : PropNode) → Reaches nodes root id → StandsAt nodes id node → Contains (children node) child → Reaches nodes root child
