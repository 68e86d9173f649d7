-- What is carried over so far.
use Rattle.std.specs.Prelude.{◌≡◌, ℕ, List, Contains, length}
use Rattle.bd_model.specs.declared.design.Sort.{Sort}
use Rattle.bd_terms.specs.declared.node.Node.{Node}
use Rattle.bd_terms.specs.Graph.{HasSort, IsGraph, sort_at}
use Rattle.bd_terms.specs.Denotation.{World, Denoted, Denotes, denoted}
use Rattle.bd_terms.specs.Renamed.{id_at}
use Rattle.bd_walk.specs.Carried.{AppliesReached, HasSortsReached}
use Rattle.bd_walk.specs.Ordered.{Carries}

-- a term of this sort that denotes this
pub record Means (nodes : List Node) (id : ℕ) (s : Sort) (value : World → Denoted) : Type 0 where
  pub sorted : HasSort nodes id s
  pub denotes : Denotes nodes id value

-- each of these terms is what it was, at its place in the new graph
abbrev pub AllMean : List Node → List Node → List ℕ → List ℕ → Type 0
AllMean old new places ids = (id : ℕ) → Contains ids id → Means new (id_at places id) (sort_at old id) (λ w. denoted w old id)

-- the new graph so far, of terms that the root reaches
pub record IsCarrying (old : List Node) (root : ℕ) (order : List ℕ) (new : List Node) (places : List ℕ) : Type 0 where
  pub carried : Carries old order new places
  pub graph : IsGraph new
  pub size : length places ≡ length old
  pub means : AllMean old new places order
  pub sorts : HasSortsReached old root new
  pub applies : AppliesReached old root new
