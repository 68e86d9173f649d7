use Rattle.std.proofs.Common.{◌≡◌, ◌+◌, drop}
use Rattle.bd_cnf.specs.Assignment.{value_of}
use Rattle.bd_verify.specs.Settled.{false_from}
use Rattle.bd_verify.proofs.settling.false_clause.Given as goal

abbrev pub invariant-loop-index : goal.invariant-loop-index
invariant-loop-index l = false_from 1 (value_of l.assignment) l.clause-items ≡ false_from (l.index + 1) (value_of l.assignment) (drop l.index l.clause-items)
