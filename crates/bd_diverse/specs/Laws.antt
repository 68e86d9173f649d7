-- Why diverse worlds are enough.
use Rattle.std.specs.Prelude.{◌↔◌, ◌<◌, ℕ, List, IsTrue, length}
use Rattle.bd_model.specs.DesignView.{DesignView}
use Rattle.bd_terms.specs.declared.node.Node.{Node}
use Rattle.bd_terms.specs.Graph.{IsGraph}
use Rattle.bd_terms.specs.Denotation.{World, truth}
use Rattle.bd_function.specs.Flat.{ReachesNoMemory}
use Rattle.bd_terms.specs.Valid.{IsValid, KeepsConstantsApart}
use Rattle.bd_diverse.specs.Diverse.{IsDiverse}

-- true in every diverse world that keeps the design's constants apart
abbrev pub IsDiverselyValid : DesignView → List Node → ℕ → Type 0
IsDiverselyValid d nodes root = (w : World) → IsDiverse w nodes root → KeepsConstantsApart d w → IsTrue (truth w nodes root)

-- a root that reaches no memory is valid exactly where it is true in every diverse world that keeps the design's
-- constants apart
abbrev pub DiverseDecides : Type 0
DiverseDecides =
    (d : DesignView) (nodes : List Node) (root : ℕ) → IsGraph nodes → root < length nodes → ReachesNoMemory nodes root
    → IsValid d nodes root ↔ IsDiverselyValid d nodes root
