use Rattle.std.proofs.Common.{◌≡◌, ◌++◌, map, take}
use Rattle.bd_verify.specs.Kept.{denial}
use Rattle.bd_verify.proofs.edges.push_denials.Given as goal

abbrev pub invariant-loop-variable : goal.invariant-loop-variable
invariant-loop-variable l = l.clauses ≡ l.initial.clauses ++ map denial (take l.variable-index l.variables)
