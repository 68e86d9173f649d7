use Rattle.bd_model.specs.DesignView.{design_view}
use Rattle.bd_goal.proofs.Joining.{Allows}
use Rattle.bd_goal.proofs.commute.allowed.Given as goal

abbrev pub invariant-loop-i : goal.invariant-loop-i
invariant-loop-i l = Allows (design_view l.design) l.fn.graph l.graph l.whens l.j l.i l.all
