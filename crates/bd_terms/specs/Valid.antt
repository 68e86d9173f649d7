-- What it means that a root is valid: true under every interpretation (Burch and Dill 1994), here one that keeps the
-- design's constants apart.
use Rattle.std.specs.Prelude.{◌≢◌, ℕ, List, [], IsTrue}
use Rattle.std.specs.List.{AllByRecursion, AllPairs}
use Rattle.bd_model.specs.DesignView.{DesignView}
use Rattle.bd_terms.specs.declared.node.Sym.TheVariants as symbol
use Rattle.bd_terms.specs.declared.node.Node.{Node}
use Rattle.bd_terms.specs.Denotation.{World, applied, truth}

-- the constants of each group have different values in the world
abbrev pub KeepsConstantsApart : DesignView → World → Type 0
KeepsConstantsApart d w =
    AllByRecursion (AllPairs (λ f g. applied w (symbol.Function f) [] ≢ applied w (symbol.Function g) [])) d.distinct

-- valid: true in every world that keeps the design's constants apart
abbrev pub IsValid : DesignView → List Node → ℕ → Type 0
IsValid d nodes root = (w : World) → KeepsConstantsApart d w → IsTrue (truth w nodes root)
