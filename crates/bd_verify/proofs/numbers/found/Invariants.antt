use Rattle.std.proofs.Common.{take}
use Rattle.bd_verify.specs.inner.Numbers.{Finds}
use Rattle.bd_verify.proofs.numbers.found.Given as goal

abbrev pub invariant-loop-row : goal.invariant-loop-row
invariant-loop-row l = Finds l.found.entries (take l.row-index l.atoms)
