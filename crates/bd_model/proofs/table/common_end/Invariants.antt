use Rattle.std.proofs.Common.{◌≡◌, ◌-◌, ◌≤◌, length, drop}
use Rattle.bd_model.proofs.table.common_end.Given as goal

abbrev pub invariant-loop-common : goal.invariant-loop-common
invariant-loop-common l = record {
  first : l.common ≤ length l.a;
  second : l.common ≤ length l.b;
  same : drop (length l.a - l.common) l.a ≡ drop (length l.b - l.common) l.b;
}

abbrev pub decreases-loop-common : goal.decreases-loop-common
decreases-loop-common l = length l.a - l.common
