use Rattle.std.proofs.Common.{◌≡◌, length, take}
use Rattle.bd_transitive.specs.inner.Rows.{HaveEnds}
use Rattle.bd_transitive.proofs.fill.rows_of.Given as goal

abbrev pub invariant-loop-span : goal.invariant-loop-span
invariant-loop-span l = record {
  size : length l.rows.items ≡ l.count;
  ends : HaveEnds (take l.span-index l.spans) l.rows.items 0;
}
