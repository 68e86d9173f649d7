-- Terms without memories (Burch and Dill 1994: reads are pushed through writes down to the first contents).
use Rattle.std.specs.Prelude.{◌≢◌, ℕ, List, Some, slice_get}
use Rattle.bd_model.specs.declared.design.Sort.TheVariants as sort
use Rattle.bd_terms.specs.declared.node.Node.{Node}
use Rattle.bd_terms.specs.declared.node.Node.TheVariants.{Read}
use Rattle.bd_terms.specs.Graph.{HasSort}

-- no term is a memory, and none reads one
pub record HasNoMemory (nodes : List Node) : Type 0 where
  pub no_memory : (id : ℕ) → HasSort nodes id sort.Memory → ⊥
  pub no_read : (id m a : ℕ) → slice_get nodes id ≢ Some (Read m a)
