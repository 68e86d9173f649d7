use Rattle.std.proofs.Common.{◌≡◌, ◌<◌, ℕ, drop, length}
use Rattle.std.specs.Prelude.{All, slice_index_or}
use Rattle.bd_terms.specs.declared.node.Sym.TheVariants.{Function}
use Rattle.bd_about.specs.inner.Owned.{is_noted}
use Rattle.bd_about.specs.inner.Tallied.{IsUpTo, named, no_tally}
use Rattle.bd_about.proofs.equations.note_clause.Given as goal

abbrev pub invariant-loop-literal : goal.invariant-loop-literal
invariant-loop-literal l = record {
  size : length l.tallies.items ≡ length l.initial.tallies.items;
  up_to : All (IsUpTo l.clause) l.tallies.items;
  counts : (f : ℕ) → f < length l.initial.tallies.items
      → named (is_noted l.owners l.atoms (Function f) (drop l.literal-index l.literals)) l.clause (slice_index_or l.tallies.items f no_tally)
      ≡ named (is_noted l.owners l.atoms (Function f) l.literals) l.clause (slice_index_or l.initial.tallies.items f no_tally);
}
