use Rattle.std.proofs.Common.{◌≡◌, ℕ, drop}
use Rattle.bd_model.specs.declared.table.Scalar.{Scalar}
use Rattle.bd_terms.specs.Denotation.{truth}
use Rattle.bd_function.specs.Flat.{under}
use Rattle.bd_equality.specs.inner.Rows.{IsRestInside, RestIs, equal_words}
use Rattle.bd_equality.proofs.equality.is_equality.Given as goal

abbrev pub invariant-loop-index : goal.invariant-loop-index
invariant-loop-index l = record {
  inside : IsRestInside l.graph l.rest;
  goes : (v : ℕ → Scalar) → RestIs l.graph l.rest v (equal_words l.graph v (drop l.index l.left) (drop l.index l.right)) → truth (under v) l.graph l.fn.id ≡ equal_words l.graph v l.left l.right;
}
