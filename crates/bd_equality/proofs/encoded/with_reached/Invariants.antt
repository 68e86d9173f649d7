use Rattle.bd_equality.proofs.Reached.{AddsReached}
use Rattle.bd_equality.proofs.encoded.with_reached.Given as goal

abbrev pub invariant-loop-id : goal.invariant-loop-id
invariant-loop-id l = AddsReached l.nodes l.root l.id l.initial.pairs l.pairs
