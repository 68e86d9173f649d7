-- What a root says of cases (Burch and Dill 1994).
use Rattle.std.specs.Prelude.{◌↔◌, ℕ, List, IsTrue}
use Rattle.bd_model.specs.DesignView.{DesignView}
use Rattle.bd_model.specs.Fits.{Fits}
use Rattle.bd_model.specs.declared.case.Case.{Case}
use Rattle.bd_terms.specs.declared.node.Node.{Node}
use Rattle.bd_terms.specs.Denotation.{World, truth}
use Rattle.bd_terms.specs.Reaches.{AgreeBelow}
use Rattle.bd_terms.specs.Valid.{IsValid, KeepsConstantsApart}
use Rattle.bd_symbolic.specs.World.{world_of}

-- the world of a case with words for the fresh addresses
abbrev pub case_world : Case → List ℕ → World
case_world c q = world_of c.interp c.state c.inputs q

-- in the world of each fitting case with any addresses the root is true exactly where the claim holds
pub record Claims (d : DesignView) (claim : Case → List ℕ → Type 0) (nodes : List Node) (root : ℕ) :
    Type 0 where
  pub means : (c : Case) (q : List ℕ) → Fits d c → IsTrue (truth (case_world c q) nodes root) ↔ claim c q

-- The root decides whether some fitting case is such. Where a case is, the root is false in its world with some
-- addresses; where the root is false in a world that agrees with that of a fitting case, the case is such; so the root
-- is valid exactly where no fitting case is.
pub record Decides (d : DesignView) (such : Case → Type 0) (nodes : List Node) (root : ℕ) :
    Type 0 where
  pub valid : IsValid d nodes root ↔ ((c : Case) → Fits d c → ¬ such c)
  pub from_case : (c : Case) → Fits d c → such c
      → (q : List ℕ) × KeepsConstantsApart d (case_world c q) × (¬ IsTrue (truth (case_world c q) nodes root))
  pub to_case : (c : Case) (q : List ℕ) (w : World) → Fits d c → AgreeBelow nodes root w (case_world c q)
      → ¬ IsTrue (truth w nodes root) → such c
