use Rattle.bd_function.proofs.Nesting.{IsEqual}
use Rattle.bd_function.proofs.nested.equal.Given as goal

abbrev pub invariant-loop-index : goal.invariant-loop-index
invariant-loop-index l = IsEqual l.fn.graph l.graph l.left l.right l.index l.same
