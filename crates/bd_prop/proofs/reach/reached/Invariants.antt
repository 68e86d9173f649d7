use Rattle.bd_prop.proofs.Marking.{AreMarks}
use Rattle.bd_prop.proofs.reach.reached.Given as goal

abbrev pub invariant-loop-id : goal.invariant-loop-id
invariant-loop-id l = AreMarks l.prop l.root l.id l.marks.items
