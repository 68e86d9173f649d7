-- Which nodes have literals: those that the root reaches.
use Rattle.std.proofs.Common.{◌≡◌, ◌↔◌, ℕ, ◌<◌, Bool, true, List, length}
use Rattle.bd_prop.specs.declared.node.PropNode.{PropNode}
use Rattle.bd_prop.specs.Graph.{IsGraph, Reaches}

pub record AreReached (nodes : List PropNode) (root : ℕ) (has : ℕ → Bool) : Type 0 where
  pub graph : IsGraph nodes
  pub below : root < length nodes
  pub which : (id : ℕ) → (has id ≡ true) ↔ Reaches nodes root id
