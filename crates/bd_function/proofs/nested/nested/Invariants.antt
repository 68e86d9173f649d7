use Rattle.bd_function.proofs.Nesting.{IsNested}
use Rattle.bd_function.proofs.nested.nested.Given as goal

abbrev pub invariant-loop-index : goal.invariant-loop-index
invariant-loop-index l = IsNested l.fn.graph l.graph l.variables l.rows l.args l.fn.own l.index l.term
