use Rattle.std.proofs.Common.{◌≡◌, ◌++◌, drop}
use Rattle.bd_case.specs.Reading.{nothing_given}
use Rattle.bd_case.proofs.read.nothing_given.Given as goal

abbrev pub invariant-loop-kind : goal.invariant-loop-kind
invariant-loop-kind l = l.given.items ++ nothing_given (drop l.kind-index l.kinds) ≡ nothing_given l.kinds
