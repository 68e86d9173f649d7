-- What the roots of the questions decide.
use Rattle.std.proofs.Common.{◌≡◌, ℕ, List, Result, Ok, Err, IfOk, sym, subst}
use Rattle.std.specs.declared.alloc.AllocError.{AllocError}
use Rattle.bd_model.specs.DesignView.{DesignView}
use Rattle.bd_model.specs.Cycle.{flushed}
use Rattle.bd_model.specs.Lawful.{IsLawful}
use Rattle.bd_model.specs.Conditions.{MeetsInvariant}
use Rattle.bd_model.specs.declared.design.Sort.TheVariants as sort
use Rattle.bd_terms.specs.declared.node.Node.{Node}
use Rattle.bd_symbolic.proofs.Widening.{lawful-symbols}
use Rattle.bd_terms.specs.Graph.{HasSort, IsGraph}
use Rattle.bd_model.specs.declared.abstraction.Abstraction.TheVariants as abstraction
use Rattle.bd_goal.specs.Claims.{Claims, Decides}
use Rattle.bd_goal.specs.Formula.{Corresponds, IsOutside, address_count}
use Rattle.bd_goal.specs.Laws.{BreaksSome}
use Rattle.bd_goal.specs.Made.{IsCorrespondence, IsDenial}
use Rattle.bd_goal.specs.Symbols.{ReachesKnown}
use Rattle.bd_goal.proofs.Deciding.{breaks_from, breaks_to, decides, meets_from, meets_to}
use Rattle.bd_verify.specs.declared.verdict.Question.{Question}
use Rattle.bd_verify.specs.declared.verdict.Question.TheVariants as question
use Rattle.bd_verify.specs.Decided.{IsKnownRoot}
use Rattle.bd_verify.specs.Kept.{IsRootOf, addresses_of}
use Rattle.bd_verify.specs.Verdict.{IsAsked}

pub root-breaks : (d : DesignView) (asked : Question) (nodes : List Node) (root n : ℕ) → asked ≡ question.Breaks → HasSort nodes root sort.Bool → Claims d (Corresponds d (flushed d)) nodes root
    → IsCorrespondence nodes d abstraction.Flushing root → n ≡ address_count d → ReachesKnown d n nodes root → IsRootOf d asked nodes root
root-breaks d asked nodes root n e sorted claims made count known = subst (λ q. IsRootOf d q nodes root) (sym e) (record {
  sorted = sorted;
  claims = claims;
  made = made;
  known = subst (λ k. ReachesKnown d k nodes root) count known;
})

pub root-meets : (d : DesignView) (asked : Question) (nodes : List Node) → asked ≡ question.Meets → (r : Result ℕ AllocError) → IfOk r (λ root. HasSort nodes root sort.Bool)
    → IfOk r (λ root. Claims d (IsOutside d) nodes root) → IfOk r (IsDenial nodes d) → IfOk r (ReachesKnown d 0 nodes) → IfOk r (IsRootOf d asked nodes)
root-meets d asked nodes e (Ok root) sorted claims made known = subst (λ q. IsRootOf d q nodes root) (sym e) (record {
  sorted = sorted;
  claims = claims;
  made = made;
  known = known;
})
root-meets d asked nodes e (Err error) sorted claims made known = tt

-- a question's root reaches what is known
pub root-known : (d : DesignView) (asked : Question) (nodes : List Node) (root : ℕ) → IsRootOf d asked nodes root → IsKnownRoot d nodes root
root-known d asked nodes root r = record { sorted = r.sorted; count = addresses_of asked d; known = r.known }

-- and decides it
pub root-decides : (d : DesignView) → IsLawful d → (asked : Question) (nodes : List Node) (root : ℕ) → IsRootOf d asked nodes root → IsGraph nodes → Decides d (IsAsked asked d) nodes root
root-decides d lawful question.Breaks nodes root r g =
    decides d (Corresponds d (flushed d)) (BreaksSome d (flushed d)) (lawful-symbols d lawful) (breaks_from d (flushed d)) (breaks_to d (flushed d)) (address_count d) nodes root g r.sorted r.known r.claims
root-decides d lawful question.Meets nodes root r g =
    decides d (IsOutside d) (λ c. MeetsInvariant d c.interp c.state) (lawful-symbols d lawful) (meets_from d) (meets_to d) 0 nodes root g r.sorted r.known r.claims
