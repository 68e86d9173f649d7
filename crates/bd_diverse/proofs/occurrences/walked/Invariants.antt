use Rattle.bd_diverse.proofs.Passing.{IsWalked}
use Rattle.bd_diverse.proofs.occurrences.walked.Given as goal

abbrev pub invariant-loop-index : goal.invariant-loop-index
invariant-loop-index l = IsWalked l.graph l.fn.root l.index l.marks.items
