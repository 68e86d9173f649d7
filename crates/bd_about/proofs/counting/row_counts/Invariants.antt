use Rattle.std.proofs.Common.{◌≡◌, ◌<◌, ℕ, drop, length}
use Rattle.std.specs.Prelude.{slice_index_or}
use Rattle.bd_about.specs.inner.Counted.{last_count}
use Rattle.bd_about.proofs.counting.row_counts.Given as goal

abbrev pub invariant-loop-symbol : goal.invariant-loop-symbol
invariant-loop-symbol l = record {
  size : length l.counts.items ≡ l.symbols;
  counts : (f : ℕ) → f < l.symbols → last_count f (slice_index_or l.counts.items f 0) (drop l.symbol-index l.flat) ≡ last_count f 0 l.flat;
}
