use Rattle.bd_equality.proofs.Groups.{JoinsMost}
use Rattle.bd_equality.proofs.apart.join_all.Given as goal

abbrev pub invariant-loop-from : goal.invariant-loop-from
invariant-loop-from l = JoinsMost l.vertices l.from-index l.initial.pairs l.pairs
