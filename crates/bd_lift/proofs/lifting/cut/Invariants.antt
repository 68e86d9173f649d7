use Rattle.bd_lift.proofs.Cutting.{IsLeft}
use Rattle.bd_lift.proofs.lifting.cut.Given as goal

abbrev pub invariant-loop : goal.invariant-loop
invariant-loop l = IsLeft l.counter l.cycles l.width l.inputs l.lists.items l.rest
