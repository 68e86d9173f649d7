use Rattle.bd_model.specs.DesignView.{design_view}
use Rattle.bd_goal.proofs.Equalling.{Equalled}
use Rattle.bd_goal.proofs.equal.equal.Given as goal

abbrev pub invariant-loop-i : goal.invariant-loop-i
invariant-loop-i l = Equalled (design_view l.design) l.fn.graph l.graph l.ours l.theirs l.first l.stride l.i l.all l.address
