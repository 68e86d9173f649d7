-- Diverse worlds decide whether a root is valid.
use Rattle.std.proofs.Common.{◌≡◌, ◌<◌, ◌↔◌, ℕ, Bool, true, false, List, IsTrue, length, refl, sym, ◌∙◌, true≢false}
use Rattle.bd_model.specs.DesignView.{DesignView}
use Rattle.bd_terms.specs.declared.node.Node.{Node}
use Rattle.bd_terms.specs.Graph.{IsGraph}
use Rattle.bd_terms.specs.Denotation.{World, truth}
use Rattle.bd_function.specs.Flat.{ReachesNoMemory}
use Rattle.bd_terms.specs.Valid.{IsValid, KeepsConstantsApart}
use Rattle.bd_diverse.specs.Laws.{DiverseDecides, IsDiverselyValid}
use Rattle.bd_diverse.proofs.Existing.{diverse-world}

valid-by : (d : DesignView) (nodes : List Node) (root : ℕ) → IsGraph nodes → root < length nodes → ReachesNoMemory nodes root → IsDiverselyValid d nodes root
    → (w : World) → KeepsConstantsApart d w → (b : Bool) → truth w nodes root ≡ b → truth w nodes root ≡ true
valid-by d nodes root g inside none h w apart true e = e
valid-by d nodes root g inside none h w apart false e =
    let k = diverse-world d nodes g root inside none w apart (λ yes. true≢false (sym yes ∙ e)) in
    absurd (k.false_ (h k.new k.diverse k.apart))

pub diverse-decides : DiverseDecides
diverse-decides d nodes root g inside none = (
  λ v w diverse apart. v w apart,
  λ h w apart. valid-by d nodes root g inside none h w apart (truth w nodes root) refl,
)
