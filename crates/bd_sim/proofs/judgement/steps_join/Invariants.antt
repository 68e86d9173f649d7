use Rattle.std.proofs.Common.{◌≡◌, ℕ, ◌<◌}
use Rattle.bd_model.specs.DesignView.{design_view}
use Rattle.bd_model.specs.Cycle.{spec_steps}
use Rattle.bd_sim.specs.StepsJoin.{StepsJoinAt}
use Rattle.bd_sim.proofs.judgement.steps_join.Given as goal

abbrev pub invariant-loop-count : goal.invariant-loop-count
invariant-loop-count l = record {
  reached : l.reached ≡ spec_steps l.count (design_view l.design) l.interp l.fn.before;
  none : (k : ℕ) → k < l.count → StepsJoinAt (design_view l.design) l.interp l.state l.inputs l.fn.before l.after k → ⊥;
}
