use Rattle.bd_model.specs.DesignView.{design_view}
use Rattle.bd_goal.proofs.Joining.{Commuting}
use Rattle.bd_goal.proofs.commute.commutes.Given as goal

abbrev pub invariant-loop-done : goal.invariant-loop-done
invariant-loop-done l = Commuting (design_view l.design) l.fn.graph l.graph l.state l.whens-inside.items.items l.fn.before l.after l.joined l.first l.done l.any
