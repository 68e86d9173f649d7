-- What it means that a pipeline is right: over every run it stands where the specification stands
-- (Burch and Dill 1994), for flushing and for any other abstraction.
use Rattle.std.specs.Prelude.{◌≡◌, ◌≤◌, ◌<◌, ℕ, List, length, take, slice_index}
use Rattle.std.specs.List.{sum}
use Rattle.bd_model.specs.DesignView.{DesignView}
use Rattle.bd_model.specs.Cycle.{flushed, spec_steps, state_after, inputs_at}
use Rattle.bd_model.specs.Same.{Same}
use Rattle.bd_model.specs.Fits.{Fits, TrailFits}
use Rattle.bd_model.specs.Conditions.{Abstraction, IsAllowed, MeetsInvariant}
use Rattle.bd_model.specs.declared.case.Case.{Case}
use Rattle.bd_model.specs.declared.case.Trail.{Trail}

-- A number of steps of the specification for each cycle of a trail follows it: each is at most the design's and
-- allowed in its cycle, and after the first n cycles the pipeline's state stands for the one in which the
-- specification is after the first n numbers of steps.
pub record FollowsBy (d : DesignView) (abs : Abstraction) (t : Trail) (counts : List ℕ) :
    Type 0 where
  pub each : length counts ≡ length t.inputs
  pub few : (n : ℕ) → n < length t.inputs → slice_index counts n ≤ d.steps
  pub allowed : (n : ℕ) → n < length t.inputs →
      IsAllowed d t.interp (state_after d t n) (inputs_at t n) (slice_index counts n)
  pub stands : (n : ℕ) → n ≤ length t.inputs →
      Same (abs t.interp (state_after d t n))
      (spec_steps (sum (take n counts)) d t.interp (abs t.interp t.state))

-- the invariant is true in each state of a trail
abbrev pub StaysInside : DesignView → Trail → Type 0
StaysInside d t = (n : ℕ) → n ≤ length t.inputs → MeetsInvariant d t.interp (state_after d t n)

-- the pipeline is right: under every interpretation, from every fitting state in which the invariant is true
-- and for every list of fitting inputs, the invariant stays true and some numbers of steps follow
abbrev pub RightBy : DesignView → Abstraction → Type 0
RightBy d abs =
    (t : Trail) → TrailFits d t → MeetsInvariant d t.interp t.state →
    StaysInside d t × ((counts : List ℕ) × FollowsBy d abs t counts)

-- the same where the abstraction is flushing
abbrev pub Follows : DesignView → Trail → List ℕ → Type 0
Follows d t counts = FollowsBy d (flushed d) t counts

abbrev pub IsRight : DesignView → Type 0
IsRight d = RightBy d (flushed d)

-- right over trails of at most so many cycles, where the invariant is a claim on the first state alone
abbrev pub BoundedRight : DesignView → ℕ → Type 0
BoundedRight d cycles =
    (t : Trail) → TrailFits d t → MeetsInvariant d t.interp t.state → length t.inputs ≤ cycles →
    (counts : List ℕ) × Follows d t counts

-- an abstraction agrees with flushing in the state of each fitting case that meets the invariant
abbrev pub Agrees : DesignView → Abstraction → Type 0
Agrees d abs =
    (c : Case) → Fits d c → MeetsInvariant d c.interp c.state →
    Same (abs c.interp c.state) (flushed d c.interp c.state)
