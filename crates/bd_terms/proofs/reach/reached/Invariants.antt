use Rattle.bd_terms.proofs.Reaching.{IsMarked}
use Rattle.bd_terms.proofs.reach.reached.Given as goal

abbrev pub invariant-loop-index : goal.invariant-loop-index
invariant-loop-index l = IsMarked l.graph l.fn.root l.index l.items.items
