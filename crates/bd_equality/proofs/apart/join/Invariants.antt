use Rattle.bd_equality.proofs.Groups.{JoinsSome}
use Rattle.bd_equality.proofs.apart.join.Given as goal

abbrev pub invariant-loop-to : goal.invariant-loop-to
invariant-loop-to l = JoinsSome l.from l.vertices l.to-index l.initial.pairs l.pairs
