use Rattle.std.proofs.Common.{take}
use Rattle.bd_transitive.specs.inner.Spans.{AddsFan}
use Rattle.bd_transitive.proofs.clauses.push_fan.Given as goal

abbrev pub invariant-loop-d : goal.invariant-loop-d
invariant-loop-d l = AddsFan l.spans.keys l.variables (take l.d-index l.row) l.e l.initial.clauses l.clauses
