use Rattle.std.proofs.Common.{◌≡◌, ◌++◌, drop}
use Rattle.std.specs.List.{flat_map}
use Rattle.bd_shrink.specs.inner.Whole.{stay_value}
use Rattle.bd_shrink.proofs.whole.push_values.Given as goal

abbrev pub invariant-loop-value : goal.invariant-loop-value
invariant-loop-value l = l.fates.items ++ flat_map stay_value (drop l.value-index l.values) ≡ l.fn.fates.items ++ flat_map stay_value l.values
