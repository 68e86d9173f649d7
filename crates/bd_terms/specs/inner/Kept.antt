-- What a graph keeps, and what it asks of its nodes.
use Rattle.std.specs.Prelude.{◌≡◌, ℕ, List}
use Rattle.std.specs.List.{AllByRecursion}
use Rattle.bd_model.specs.declared.design.Sort.{Sort}
use Rattle.bd_terms.specs.declared.node.Node.{Node}
use Rattle.bd_terms.specs.declared.node.Sym.{Sym}
use Rattle.bd_terms.specs.Graph.{IsGraph, node_uses, sorts}

-- the graph's nodes, and beside them their sorts
pub record IsKept (nodes : List Node) (kept : List Sort) : Type 0 where
  pub graph : IsGraph nodes
  pub sorted : kept ≡ sorts nodes

-- if the node applies the symbol, it has this arity and sort
abbrev pub NodeKeepsSymbol : Node → Sym → ℕ → Sort → Type 0
NodeKeepsSymbol node symbol arity s = AllByRecursion (λ u. u.symbol ≡ symbol → (u.arity ≡ arity) × (u.sort ≡ s)) (node_uses node)
