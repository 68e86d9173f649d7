use Rattle.std.proofs.Common.{◌≡◌, ℕ, None, drop}
use Rattle.bd_about.specs.inner.Owned.{last_atom, held}
use Rattle.bd_about.proofs.owners.Atoms.of.Given as goal

abbrev pub invariant-loop-row : goal.invariant-loop-row
invariant-loop-row l =
    (x : ℕ) → last_atom x (held l.atoms x) (drop l.row-index l.row-items) ≡ last_atom x None l.row-items
