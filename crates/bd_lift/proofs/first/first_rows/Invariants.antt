use Rattle.std.proofs.Common.{map}
use Rattle.bd_lift.specs.inner.First.{AreEnough, entry_row}
use Rattle.bd_lift.proofs.first.first_rows.Given as goal

-- the first of the rows so far
abbrev pub invariant-loop-row : goal.invariant-loop-row
invariant-loop-row l = AreEnough l.yielded (map entry_row l.first.entries)
