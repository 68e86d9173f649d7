use Rattle.std.proofs.Common.{◌≡◌, ℕ, Some, length, slice_get}
use Rattle.bd_about.specs.declared.counting.Applied.{Applied}
use Rattle.bd_about.specs.inner.Counted.{IsItemOf}
use Rattle.bd_about.proofs.counting.with_positive.Given as goal

abbrev pub invariant-loop-f : goal.invariant-loop-f
invariant-loop-f l = record {
  size : length l.applied ≡ l.f;
  each : (k : ℕ) (a : Applied) → slice_get l.applied k ≡ Some a → IsItemOf l.rows l.equations l.clauses l.symbols k a;
}
