-- What a pass over a graph of terms keeps.
use Rattle.std.specs.Prelude.{◌≡◌, ℕ, ◌<◌, List, Contains, length}
use Rattle.bd_terms.specs.declared.node.Node.{Node}
use Rattle.bd_terms.specs.Graph.{Use, sort_at, uses}
use Rattle.bd_terms.specs.Reaches.{Reaches, ReachesUse}
use Rattle.bd_terms.specs.Denotation.{World, denoted}

-- each symbol that the new graph applies the old root reaches, with this arity and sort
pub record AppliesReached (old : List Node) (root : ℕ) (new : List Node) : Type 0 where
  pub reached : (u : Use) → Contains (uses new) u → ReachesUse old root u

-- in every world the new root denotes what the old one does
pub record DenotesSame (old : List Node) (root : ℕ) (new : List Node) (root' : ℕ) : Type 0 where
  pub same : (w : World) → denoted w new root' ≡ denoted w old root

-- a term that the root reaches has the sort of this one
pub record HasSortOf (old : List Node) (root : ℕ) (new : List Node) (id : ℕ) : Type 0 where
  pub source : ℕ
  pub reached : Reaches old root source
  pub same : sort_at new id ≡ sort_at old source

-- each term of the new graph has the sort of one that the old root reaches
pub record HasSortsReached (old : List Node) (root : ℕ) (new : List Node) : Type 0 where
  pub each : (id : ℕ) → id < length new → HasSortOf old root new id
