use Rattle.bd_model.specs.DesignView.{design_view}
use Rattle.bd_goal.proofs.Running.{Running}
use Rattle.bd_goal.proofs.bounded.right_run.Given as goal

abbrev pub invariant-loop-cycle : goal.invariant-loop-cycle
invariant-loop-cycle l = Running (design_view l.design) l.cycles l.fn.graph l.graph l.inside l.run l.cycle
