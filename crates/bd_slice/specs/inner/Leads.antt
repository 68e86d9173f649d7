-- Where cycles end.
use Rattle.std.specs.Prelude.{◌≡◌, ◌+◌}
use Rattle.bd_slice.specs.declared.place.Column.{Column}
use Rattle.bd_slice.specs.declared.place.Column.TheVariants as column
use Rattle.bd_slice.specs.declared.subject.Cycle.{Cycle}
use Rattle.bd_slice.specs.declared.subject.Cycle.TheVariants as cycle

-- the cycle ends in the column
abbrev pub LeadsTo : Cycle → Column → Type 0
LeadsTo cycle.Case which = which ≡ column.After 0
LeadsTo (cycle.FlushBefore n) which = which ≡ column.Before (n + 1)
LeadsTo (cycle.FlushAfter n) which = which ≡ column.After (n + 1)
LeadsTo (cycle.Step n) which = which ≡ column.Steps (n + 1)
LeadsTo cycle.Invariant which = ⊥

-- a column in which no cycle ends
abbrev pub IsStart : Column → Type 0
IsStart (column.Before n) = n ≡ 0
IsStart (column.After n) = ⊥
IsStart (column.Steps n) = n ≡ 0
