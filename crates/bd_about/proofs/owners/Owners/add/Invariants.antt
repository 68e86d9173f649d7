use Rattle.std.proofs.Common.{◌≡◌, ℕ, Some, drop, if◌then◌else◌}
use Rattle.bd_about.specs.Equations.{has_row}
use Rattle.bd_about.specs.inner.Owned.{held}
use Rattle.bd_about.proofs.owners.Owners.add.Given as goal

abbrev pub invariant-loop-row : goal.invariant-loop-row
invariant-loop-row l =
    (x : ℕ) → (if has_row (drop l.row-index l.row-items) x then Some l.symbol.sym else held l.self x)
    ≡ (if has_row l.row-items x then Some l.symbol.sym else held l.initial.self x)
