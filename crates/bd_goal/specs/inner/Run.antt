-- Terms of a run of so many cycles, in the world of each fitting trail of one cycle or more.
use Rattle.std.specs.Prelude.{◌<◌, ◌≤◌, ℕ, List, length}
use Rattle.bd_model.specs.DesignView.{DesignView}
use Rattle.bd_model.specs.Conditions.{MeetsInvariant}
use Rattle.bd_model.specs.Cycle.{flushed, state_after}
use Rattle.bd_model.specs.Fits.{TrailFits}
use Rattle.bd_model.specs.declared.case.Trail.{Trail}
use Rattle.bd_model.specs.declared.design.Sort.TheVariants as sort
use Rattle.bd_terms.specs.declared.node.Node.{Node}
use Rattle.bd_terms.specs.Graph.{HasSort}
use Rattle.bd_symbolic.specs.Symbolic.{DenoteValues}
use Rattle.bd_symbolic.specs.States.{StateHasSorts}
use Rattle.bd_goal.specs.Bounded.{CycleCommutesAt, trail_world}
use Rattle.bd_goal.specs.declared.bounded.Run.{Run}
use Rattle.bd_goal.specs.inner.Shown.{IsVisible, Says}

-- what the terms of a run denote in a trail's world after its first n cycles
pub record FollowsTrail (d : DesignView) (nodes : List Node) (n : ℕ) (run : Run) (t : Trail) (q : List ℕ) : Type 0 where
  pub state : DenoteValues (trail_world t q) nodes run.state.entries (state_after d t n)
  pub flushed : DenoteValues (trail_world t q) nodes run.flushed.entries (flushed d t.interp (state_after d t n))
  pub commutes : Says (trail_world t q) nodes run.commutes ((m : ℕ) → m < n → CycleCommutesAt d t q m)

-- the terms of a run after n cycles
pub record IsRun (d : DesignView) (nodes : List Node) (n : ℕ) (run : Run) : Type 0 where
  pub sorted : StateHasSorts d.pipe nodes run.state
  pub visible : IsVisible d nodes run.flushed
  pub truth : HasSort nodes run.commutes sort.Bool
  pub follows : (t : Trail) (q : List ℕ) → TrailFits d t → 1 ≤ length t.inputs → n ≤ length t.inputs → FollowsTrail d nodes n run t q

-- the terms of a run before its first cycle, and the term that the invariant is true there
pub record StartsRun (d : DesignView) (nodes : List Node) (inside : ℕ) (run : Run) : Type 0 where
  pub truth : HasSort nodes inside sort.Bool
  pub says : (t : Trail) (q : List ℕ) → TrailFits d t → 1 ≤ length t.inputs → Says (trail_world t q) nodes inside (MeetsInvariant d t.interp t.state)
  pub running : IsRun d nodes 0 run
