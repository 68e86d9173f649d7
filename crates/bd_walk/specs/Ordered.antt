-- A graph whose terms stand in the order in which a walk from the root finishes those of another.
use Rattle.std.specs.Prelude.{◌≡◌, ℕ, List, [], ◌∷◌, ◌++◌, Some, slice_get, slice_set}
use Rattle.bd_terms.specs.declared.node.Node.{Node}
use Rattle.bd_terms.specs.Renamed.{id_at, renamed}
use Rattle.bd_terms.specs.Simplified.{Gives, simplified}
use Rattle.bd_walk.specs.Walk.{walk}

-- the graph that these terms make one after the other, each simplified over the places of its children, and their places
pub data Carries (old : List Node) : List ℕ → List Node → List ℕ → Type 0 where
  Start : (places : List ℕ) → Carries old [] [] places
  Next : (order : List ℕ) (new : List Node) (places : List ℕ) (id : ℕ) (node : Node) (new' : List Node) (place : ℕ) → Carries old order new places
      → slice_get old id ≡ Some node → Gives new new' place (simplified new (renamed places node)) → Carries old (order ++ id ∷ []) new' (slice_set places id place)

-- they are those that a walk from the root finishes, in this order
pub record IsInWalkOrder (old : List Node) (root : ℕ) (new : List Node) (root' : ℕ) : Type 0 where
  pub places : List ℕ
  pub carried : Carries old (walk old root) new places
  pub rooted : root' ≡ id_at places root
