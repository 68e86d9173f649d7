use Rattle.std.proofs.Common.{◌≡◌, ℕ, None, drop}
use Rattle.bd_about.specs.inner.Owned.{last_symbol, held}
use Rattle.bd_about.proofs.owners.Owners.of.Given as goal

abbrev pub invariant-loop-symbol : goal.invariant-loop-symbol
invariant-loop-symbol l =
    (x : ℕ) → last_symbol x (held l.owners x) (drop l.symbol-index l.symbol-items) ≡ last_symbol x None l.symbol-items
