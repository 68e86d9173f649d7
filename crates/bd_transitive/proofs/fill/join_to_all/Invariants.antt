use Rattle.std.proofs.Common.{◌≡◌, ◌≢◌, ℕ, AllPairs, length, take}
use Rattle.bd_transitive.specs.inner.Rows.{HaveEnds, JoinedToAll}
use Rattle.bd_transitive.proofs.fill.join_to_all.Given as goal

abbrev pub invariant-loop-high : goal.invariant-loop-high
invariant-loop-high l = record {
  size : length l.rows.items ≡ length l.initial.rows.items;
  ends : (from : ℕ) → HaveEnds l.initial.spans.keys l.initial.rows.items from → HaveEnds l.spans.keys l.rows.items from;
  distinct : AllPairs (λ s t. s ≢ t) l.spans.keys;
  joined : JoinedToAll l.initial.spans.keys l.spans.keys l.low (take l.high-index l.all);
}
