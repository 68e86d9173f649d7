use Rattle.std.proofs.Common.{◌≡◌, ◌+◌, ◌<◌, ℕ, drop, length}
use Rattle.std.specs.Prelude.{All, slice_index_or}
use Rattle.bd_terms.specs.declared.node.Sym.TheVariants.{Function}
use Rattle.bd_about.specs.inner.Owned.{is_noted}
use Rattle.bd_about.specs.inner.Tallied.{IsUpTo, no_tally, tallied}
use Rattle.bd_about.proofs.equations.clause_tallies.Given as goal

abbrev pub invariant-loop-place : goal.invariant-loop-place
invariant-loop-place l = record {
  size : length l.tallies.items ≡ l.functions;
  up_to : All (IsUpTo l.place) l.tallies.items;
  counts : (f : ℕ) → f < l.functions
      → tallied (is_noted l.owners l.atoms (Function f)) (l.place + 1) (slice_index_or l.tallies.items f no_tally) (drop l.place l.clauses)
      ≡ tallied (is_noted l.owners l.atoms (Function f)) 1 no_tally l.clauses;
}
