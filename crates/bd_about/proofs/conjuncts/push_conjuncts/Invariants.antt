use Rattle.std.proofs.Common.{◌≡◌, ◌+◌, ◌++◌, drop}
use Rattle.bd_about.specs.Conjuncts.{conjunct_lines}
use Rattle.bd_about.proofs.conjuncts.push_conjuncts.Given as goal

abbrev pub invariant-loop-place : goal.invariant-loop-place
invariant-loop-place l = l.out.items ++ conjunct_lines (l.place + 1) (drop l.place l.without) ≡ l.initial.out.items ++ conjunct_lines 1 l.without
