-- What a term stands over, and the symbols that are applied there.
use Rattle.std.specs.Prelude.{◌≡◌, ℕ, List, Contains, Some, slice_get}
use Rattle.bd_model.specs.Table.{at}
use Rattle.bd_terms.specs.declared.node.Node.{Node}
use Rattle.bd_terms.specs.Graph.{Use, children, node_uses}
use Rattle.bd_terms.specs.Denotation.{World}

-- a root reaches itself, and what the nodes that it reaches stand over
pub data Reaches (nodes : List Node) (root : ℕ) : ℕ → Type 0 where
  Root : Reaches nodes root root
  Child : (id : ℕ) (node : Node) (c : ℕ) → Reaches nodes root id → slice_get nodes id ≡ Some node → Contains (children node) c → Reaches nodes root c

-- the root reaches a node that applies the symbol
pub record ReachesUse (nodes : List Node) (root : ℕ) (u : Use) : Type 0 where
  pub id : ℕ
  pub node : Node
  pub reached : Reaches nodes root id
  pub there : slice_get nodes id ≡ Some node
  pub applies : Contains (node_uses node) u

-- in both worlds the symbols that the root reaches have the same values at the same arguments
pub record AgreeBelow (nodes : List Node) (root : ℕ) (v w : World) : Type 0 where
  pub alike : (u : Use) → ReachesUse nodes root u → (args : List ℕ) → at (v u.symbol) args ≡ at (w u.symbol) args
