-- The symbols of a question (the correspondence formula of Burch and Dill 1994): those of the design, and fresh
-- addresses, which are words without arguments.
use Rattle.std.specs.Prelude.{◌≡◌, ◌<◌, ◌⊎◌, ℕ, List, Contains}
use Rattle.bd_model.specs.DesignView.{DesignView}
use Rattle.bd_model.specs.declared.design.Sort.TheVariants as sort
use Rattle.bd_terms.specs.declared.node.Sym.TheVariants as symbol
use Rattle.bd_terms.specs.declared.node.Node.{Node}
use Rattle.bd_terms.specs.Graph.{Extends, KeepsSymbol, Use, uses}
use Rattle.bd_terms.specs.Reaches.{ReachesUse}
use Rattle.bd_symbolic.specs.DesignSymbols.{IsDeclared}

-- each address that the graph holds is a word without arguments
pub record KeepsAddresses (nodes : List Node) : Type 0 where
  pub keeps : (i : ℕ) → KeepsSymbol nodes (symbol.Address i) 0 sort.Word

abbrev pub address_use : ℕ → Use
address_use i = record { symbol = symbol.Address i; arity = 0; sort = sort.Word }

-- a symbol of the design with its arity and sort, or one of the first n addresses
abbrev pub IsKnown : DesignView → ℕ → Use → Type 0
IsKnown d n u = IsDeclared d u ⊎ ((i : ℕ) × (i < n) × (u ≡ address_use i))

-- the root reaches no other symbol
pub record ReachesKnown (d : DesignView) (n : ℕ) (nodes : List Node) (root : ℕ) : Type 0 where
  pub known : (u : Use) → ReachesUse nodes root u → IsKnown d n u

-- the graph grows by further nodes, which apply such symbols alone
pub record GrowsKnown (d : DesignView) (n : ℕ) (old new : List Node) : Type 0 where
  pub extends : Extends old new
  pub within : (u : Use) → Contains (uses new) u → Contains (uses old) u ⊎ IsKnown d n u
