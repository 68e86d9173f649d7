use Rattle.bd_model.specs.DesignView.{design_view}
use Rattle.bd_sim.proofs.Trails.{IsFollowed}
use Rattle.bd_sim.proofs.trail.judge_trail.Given as goal

abbrev pub invariant-loop-inputs : goal.invariant-loop-inputs
invariant-loop-inputs l = IsFollowed (design_view l.design) l.trail l.inputs-index l.cycle l.state l.before
