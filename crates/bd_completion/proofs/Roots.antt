-- What the roots of the questions on an abstraction reach and decide.
use Rattle.std.proofs.Common.{◌≡◌, ℕ, Bool, true, false, List, refl, subst}
use Rattle.bd_model.specs.Abstraction.{AbstractionView, abstraction_of, abstraction_view}
use Rattle.bd_model.specs.declared.abstraction.Abstraction.{Abstraction as SourceAbstraction}
use Rattle.bd_model.specs.declared.abstraction.Abstraction.TheVariants as abstraction
use Rattle.bd_model.specs.DesignView.{DesignView}
use Rattle.bd_model.specs.Lawful.{IsLawful}
use Rattle.bd_model.specs.declared.design.Sort.TheVariants as sort
use Rattle.bd_terms.specs.declared.node.Node.{Node}
use Rattle.bd_terms.specs.Graph.{HasSort, IsGraph}
use Rattle.bd_symbolic.proofs.Widening.{lawful-symbols}
use Rattle.bd_goal.specs.Claims.{Claims, Decides}
use Rattle.bd_goal.specs.Formula.{AgreesAt, Corresponds, address_count, memory_count}
use Rattle.bd_goal.specs.Laws.{BreaksSome, Differs}
use Rattle.bd_goal.specs.Symbols.{ReachesKnown}
use Rattle.bd_goal.proofs.Deciding.{breaks_from, breaks_to, decides, differs_from, differs_to}
use Rattle.bd_verify.specs.Decided.{IsKnownRoot}
use Rattle.bd_completion.specs.Kept.{IsMadeBy, IsRootBy, IsSought, abstraction_by, addresses_by, claim_by}

-- an abstraction means what is seen of it
pub same-meaning : (d : DesignView) (source : SourceAbstraction) → abstraction_of d source ≡ abstraction_by d (abstraction_view source)
same-meaning d abstraction.Flushing = refl
same-meaning d (abstraction.Given lets parts) = refl

-- what claims and is made as the question's formula is its root
pub made_root : (d : DesignView) (source : SourceAbstraction) (agree : Bool) (nodes : List Node) (root addresses : ℕ) → HasSort nodes root sort.Bool → Claims d (claim_by d (abstraction_of d source) agree) nodes root
    → IsMadeBy d source agree nodes root → addresses ≡ addresses_by d agree → ReachesKnown d addresses nodes root → IsRootBy d (abstraction_view source) agree nodes root
made_root d source agree nodes root addresses sorted claims made counted known = record {
  sorted = sorted;
  claims = subst (λ abs. Claims d (claim_by d abs agree) nodes root) (same-meaning d source) claims;
  source = source;
  is_source = refl;
  made = made;
  known = subst (λ n. ReachesKnown d n nodes root) counted known;
}

-- a question's root reaches what is known
pub root-known : (d : DesignView) (abs : AbstractionView) (agree : Bool) (nodes : List Node) (root : ℕ) → IsRootBy d abs agree nodes root → IsKnownRoot d nodes root
root-known d abs agree nodes root r = record { sorted = r.sorted; count = addresses_by d agree; known = r.known }

-- and decides it
pub root-decides : (d : DesignView) → IsLawful d → (abs : AbstractionView) (agree : Bool) (nodes : List Node) (root : ℕ) → IsRootBy d abs agree nodes root → IsGraph nodes → Decides d (IsSought d (abstraction_by d abs) agree) nodes root
root-decides d lawful abs false nodes root r g =
    let by = abstraction_by d abs in
    decides d (Corresponds d by) (BreaksSome d by) (lawful-symbols d lawful) (breaks_from d by) (breaks_to d by) (address_count d) nodes root g r.sorted r.known r.claims
root-decides d lawful abs true nodes root r g =
    let by = abstraction_by d abs in
    decides d (AgreesAt d by) (Differs d by) (lawful-symbols d lawful) (differs_from d by) (differs_to d by) (memory_count d) nodes root g r.sorted r.known r.claims
