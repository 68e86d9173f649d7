-- Terms that came about by a call that builds one. So nothing stands below a term but what its rule names.
use Rattle.std.specs.Prelude.{ℕ, List}
use Rattle.bd_terms.specs.declared.node.Node.{Node}
use Rattle.bd_terms.specs.Graph.{Extends, FitsSorts}
use Rattle.bd_terms.specs.Simplified.{Gives, simplified}

-- a call that builds this node, simplified, gave the term, when the graph was a front of what it is
pub record IsBuilt (nodes : List Node) (node : Node) (id : ℕ) : Type 0 where
  pub old : List Node
  pub new : List Node
  pub fits : FitsSorts old node
  pub gives : Gives old new id (simplified old node)
  pub front : Extends new nodes
