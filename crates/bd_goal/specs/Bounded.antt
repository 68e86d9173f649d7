-- The formula of a bounded run: what it claims of a trail, with a word for each fresh address, and what it decides
-- (correspondence as in Burch and Dill 1994, unrolled over cycles as in Biere, Cimatti, Clarke and Zhu 1999).
use Rattle.std.specs.Prelude.{◌≡◌, ◌<◌, ◌*◌, ◌↔◌, ℕ, List, IsTrue, length}
use Rattle.bd_model.specs.DesignView.{DesignView}
use Rattle.bd_model.specs.Conditions.{MeetsInvariant}
use Rattle.bd_model.specs.Cycle.{flushed, state_after, inputs_at}
use Rattle.bd_model.specs.Fits.{TrailFits}
use Rattle.bd_model.specs.TrailJudged.{IsTrailJudged}
use Rattle.bd_model.specs.declared.case.Trail.{Trail}
use Rattle.bd_model.specs.declared.case.TrailJudged.TheVariants as judged
use Rattle.bd_model.specs.declared.design.Sort.TheVariants as sort
use Rattle.bd_terms.specs.declared.node.Node.{Node}
use Rattle.bd_terms.specs.Denotation.{World, truth}
use Rattle.bd_terms.specs.Graph.{HasSort, IsGraph}
use Rattle.bd_terms.specs.Valid.{IsValid, KeepsConstantsApart}
use Rattle.bd_symbolic.specs.Widened.{HasLawfulSymbols, case_of_trail, widened}
use Rattle.bd_goal.specs.Claims.{case_world}
use Rattle.bd_goal.specs.Formula.{CommutesAt, address_count}
use Rattle.bd_goal.specs.Symbols.{ReachesKnown}

-- a fitting trail of so many cycles
pub record IsTrailOver (d : DesignView) (cycles : ℕ) (t : Trail) : Type 0 where
  pub fits : TrailFits d t
  pub counted : length t.inputs ≡ cycles

-- the world of a trail with words for the fresh addresses
abbrev pub trail_world : Trail → List ℕ → World
trail_world t q = case_world (case_of_trail t) q

-- a cycle of a trail, by its place from 0, commutes as far as its addresses show, which come after those of the cycles
-- before it: that of memory number m and j steps is (n * memory_count d + m) * (d.steps + 1) + j
abbrev pub CycleCommutesAt : DesignView → Trail → List ℕ → ℕ → Type 0
CycleCommutesAt d t q n =
    CommutesAt d (flushed d) t.interp (state_after d t n) (inputs_at t n) (n * address_count d) q

-- where the invariant is true in the first state, each cycle commutes as far as the addresses show
abbrev pub RunCommutes : DesignView → Trail → List ℕ → Type 0
RunCommutes d t q =
    MeetsInvariant d t.interp t.state → (n : ℕ) → n < length t.inputs → CycleCommutesAt d t q n

-- in the world of each fitting trail of so many cycles with any addresses the root is true exactly where each cycle of it
-- commutes, as far as the addresses show
pub record ClaimsRuns (d : DesignView) (cycles : ℕ) (nodes : List Node) (root : ℕ) : Type 0 where
  pub means : (t : Trail) (q : List ℕ) → IsTrailOver d cycles t
      → IsTrue (truth (trail_world t q) nodes root) ↔ RunCommutes d t q

-- a cycle of the trail is the first that breaks
abbrev pub IsBroken : DesignView → Trail → Type 0
IsBroken d t = (cycle : ℕ) × IsTrailJudged d t (judged.Broken cycle)

-- The root decides whether some fitting trail of so many cycles is broken. It is false in the world of such a trail, with
-- some addresses, exactly where the trail is broken; and where it is false in a world that keeps the constants apart,
-- there is such a trail.
pub record DecidesRuns (d : DesignView) (cycles : ℕ) (nodes : List Node) (root : ℕ) : Type 0 where
  pub valid : IsValid d nodes root ↔ ((t : Trail) → IsTrailOver d cycles t → ¬ IsBroken d t)
  pub from_trail : (t : Trail) → IsTrailOver d cycles t → IsBroken d t
      → (q : List ℕ) × KeepsConstantsApart d (trail_world t q) × (¬ IsTrue (truth (trail_world t q) nodes root))
  pub to_trail : (t : Trail) (q : List ℕ) → IsTrailOver d cycles t
      → ¬ IsTrue (truth (trail_world t q) nodes root) → IsBroken d t
  pub from_world : (w : World) → KeepsConstantsApart d w → ¬ IsTrue (truth w nodes root)
      → (t : Trail) × IsTrailOver d cycles t × IsBroken d t

-- whatever root makes this claim, and reaches symbols of the design over so many cycles and addresses alone, decides
-- which trails are broken
abbrev pub BoundedDecides : Type 0
BoundedDecides =
    (d : DesignView) (cycles n : ℕ) (nodes : List Node) (root : ℕ) → HasLawfulSymbols d
    → IsGraph nodes → HasSort nodes root sort.Bool → ReachesKnown (widened d cycles) n nodes root
    → ClaimsRuns d cycles nodes root → DecidesRuns d cycles nodes root
