-- Terms that were built stay so.
use Rattle.std.proofs.Common.{ℕ, List}
use Rattle.bd_terms.specs.declared.node.Node.{Node}
use Rattle.bd_terms.specs.Graph.{Extends, FitsSorts}
use Rattle.bd_terms.specs.Simplified.{Gives, simplified}
use Rattle.bd_terms.proofs.Growth.{Extends-self, Extends-trans}
use Rattle.bd_walk.specs.Built.{IsBuilt}

-- a term that has just been built
pub IsBuilt-now : (old new : List Node) (node : Node) (id : ℕ) → FitsSorts old node → Gives old new id (simplified old node) → IsBuilt new node id
IsBuilt-now old new node id f g = record { old = old; new = new; fits = f; gives = g; front = Extends-self new }

pub IsBuilt-Extends : (a b : List Node) → Extends a b → (node : Node) (id : ℕ) → IsBuilt a node id → IsBuilt b node id
IsBuilt-Extends a b e node id k = record { old = k.old; new = k.new; fits = k.fits; gives = k.gives; front = Extends-trans k.new a b k.front e }
