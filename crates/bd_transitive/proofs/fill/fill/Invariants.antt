use Rattle.std.proofs.Common.{◌≡◌, ◌≢◌, ℕ, ◌<◌, All, AllPairs, length}
use Rattle.bd_transitive.specs.inner.Spans.{IsFilled, IsSpan}
use Rattle.bd_transitive.specs.inner.Rows.{HaveEnds}
use Rattle.bd_transitive.proofs.Filling.{IsSettled}
use Rattle.bd_transitive.proofs.fill.fill.Given as goal

abbrev pub invariant-loop-low : goal.invariant-loop-low
invariant-loop-low l = record {
  size : length l.rows.items ≡ l.count;
  ends : HaveEnds l.spans.keys l.rows.items l.low;
  bounded : All (IsSpan l.count) l.spans.keys;
  distinct : AllPairs (λ s t. s ≢ t) l.spans.keys;
  filled : IsFilled l.initial.spans.keys l.spans.keys;
  settled : (p : ℕ) → p < l.low → IsSettled l.spans.keys p;
}
