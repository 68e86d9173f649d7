-- What a trail shows of a pipeline over a bounded number of cycles: the first cycle that doesn't commute.
use Rattle.std.specs.Prelude.{◌≡◌, ◌<◌, ◌+◌, ℕ, length}
use Rattle.bd_model.specs.DesignView.{DesignView}
use Rattle.bd_model.specs.Cycle.{state_after, inputs_at}
use Rattle.bd_model.specs.Conditions.{MeetsInvariant, Commutes}
use Rattle.bd_model.specs.declared.case.Trail.{Trail}
use Rattle.bd_model.specs.declared.case.TrailJudged.{TrailJudged}
use Rattle.bd_model.specs.declared.case.TrailJudged.TheVariants as judged

-- the condition `commute` of a trail's cycle, by its place from 0, whether the invariant is true there or not
abbrev pub CycleCommutes : DesignView → Trail → ℕ → Type 0
CycleCommutes d t n = Commutes d t.interp (state_after d t n) (inputs_at t n)

-- the cycle at this place is the first that doesn't commute
pub record BreaksFirst (d : DesignView) (t : Trail) (n : ℕ) : Type 0 where
  pub within : n < length t.inputs
  pub broken : ¬ CycleCommutes d t n
  pub earlier : (m : ℕ) → m < n → CycleCommutes d t m

-- what a trail shows, where cycles have numbers from 1; the invariant counts in the first state alone
abbrev pub IsTrailJudged : DesignView → Trail → TrailJudged → Type 0
IsTrailJudged d t judged.Outside = ¬ MeetsInvariant d t.interp t.state
IsTrailJudged d t (judged.Broken cycle) =
    MeetsInvariant d t.interp t.state × ((n : ℕ) × (cycle ≡ n + 1) × BreaksFirst d t n)
IsTrailJudged d t judged.Holds =
    MeetsInvariant d t.interp t.state × ((n : ℕ) → n < length t.inputs → CycleCommutes d t n)
