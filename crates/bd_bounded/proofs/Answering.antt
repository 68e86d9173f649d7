-- What an answer on the root of a bounded run says of trails.
use Rattle.std.proofs.Common.{◌≡◌, ℕ, ◌*◌, List, refl, sym, subst}
use Rattle.bd_model.specs.DesignView.{DesignView}
use Rattle.bd_model.specs.Laws.{TrailsDecide}
use Rattle.bd_model.specs.Lawful.{IsLawful}
use Rattle.bd_model.specs.Right.{BoundedRight}
use Rattle.bd_model.specs.TrailJudged.{IsTrailJudged}
use Rattle.bd_model.specs.declared.case.Trail.{Trail}
use Rattle.bd_model.specs.declared.case.TrailJudged.{TrailJudged}
use Rattle.bd_model.specs.declared.case.TrailJudged.TheVariants as judged
use Rattle.bd_terms.specs.declared.node.Node.{Node}
use Rattle.bd_terms.specs.Graph.{IsGraph}
use Rattle.bd_terms.specs.Valid.{IsValid}
use Rattle.bd_symbolic.specs.Widened.{widened}
use Rattle.bd_symbolic.proofs.Widening.{lawful-symbols}
use Rattle.bd_goal.specs.Bounded.{DecidesRuns, IsBroken, IsTrailOver, trail_world}
use Rattle.bd_goal.specs.Formula.{address_count}
use Rattle.bd_goal.proofs.Runs.{bounded-decides}
use Rattle.bd_cdcl.specs.declared.solver.Found.{Found}
use Rattle.bd_verify.specs.declared.verdict.Mode.{Mode}
use Rattle.bd_verify.specs.declared.verdict.Work.{Work}
use Rattle.bd_verify.specs.Decided.{Falsifies, IsKnownRoot, IsRootWork, IsThis}
use Rattle.bd_verify.proofs.RootAnswers.{kept-weaker}
use Rattle.bd_bounded.specs.Answer.{IsRunWork}
use Rattle.bd_bounded.specs.Kept.{IsRunRoot}
use Rattle.bd_bounded.proofs.Extending.{broken-extends}

pub run-known : (d : DesignView) (cycles : ℕ) (nodes : List Node) (root : ℕ) → IsRunRoot d cycles nodes root → IsKnownRoot (widened d cycles) nodes root
run-known d cycles nodes root h = record { sorted = h.sorted; count = cycles * address_count d; known = h.known }

module _ (d : DesignView) (lawful : IsLawful d) (cycles : ℕ) (nodes : List Node) (root : ℕ) (g : IsGraph nodes) (is : IsRunRoot d cycles nodes root) where
  decides : DecidesRuns d cycles nodes root
  decides = bounded-decides d cycles (cycles * address_count d) nodes root (lawful-symbols d lawful) g is.sorted is.known is.claims

  -- where the root is valid, no trail of at most so many cycles is broken, so the pipeline is right over them
  pub valid-right : TrailsDecide → IsValid d nodes root → BoundedRight d cycles
  valid-right law valid =
      (law d cycles).0 (λ t fits few cycle shown.
      let longer = broken-extends d cycles t lawful fits few (cycle, shown) in decides.valid.0 valid longer.0 longer.1 longer.2)

  -- a trail in whose world it is false is broken
  pub false-broken : (t : Trail) → Falsifies d cycles nodes root t → IsTrailOver d cycles t × IsBroken d t
  false-broken t h =
      let over : IsTrailOver d cycles t = record { fits = h.fits; counted = h.counted } in
      (over, decides.to_trail t h.fails.0 over h.fails.1)

  -- and its work is that of the question
  pub run-work : (mode : Mode) (budget : ℕ) (answer : Found) (w : Work) → IsRootWork d cycles nodes root mode budget answer w → IsRunWork d cycles mode budget answer w
  run-work mode budget answer w h = record {
    kept =
        kept-weaker (widened d cycles) (IsThis nodes root) (IsRunRoot d cycles) mode w.cnf
        (λ terms term this. subst (λ t. IsRunRoot d cycles t term) (sym this.0) (subst (IsRunRoot d cycles nodes) (sym this.1) is)) h.kept;
    keeps = record {
      decides = (
        λ sat. let world = h.keeps.decides.0 sat in decides.from_world world.0 world.1 world.2,
        λ broken.
            let world = decides.from_trail broken.0 broken.1 broken.2 in
            h.keeps.decides.1 (trail_world broken.0 world.0, world.1, world.2),
      );
    };
    law = h.law;
  }

-- of a broken trail nothing else can be judged
pub only-broken : (d : DesignView) (t : Trail) (j : TrailJudged) → IsBroken d t → IsTrailJudged d t j → (cycle : ℕ) × (j ≡ judged.Broken cycle)
only-broken d t judged.Outside (cycle, (inside, found)) h = absurd (h inside)
only-broken d t judged.Holds (cycle, (inside, (n, is, breaks))) h = absurd (breaks.broken (h.1 n breaks.within))
only-broken d t (judged.Broken k) broken h = (k, refl)
