use Rattle.std.proofs.Common.{◌≡◌, ℕ, List, Some, length, slice_get}
use Rattle.bd_terms.specs.declared.node.Sym.{Sym}
use Rattle.bd_terms.specs.declared.node.Sym.TheVariants.{Function}
use Rattle.bd_about.specs.Equations.{symbols_among}
use Rattle.bd_about.specs.inner.Paired.{has_pair}
use Rattle.bd_about.proofs.compared.comparisons.Given as goal

abbrev pub invariant-loop-f : goal.invariant-loop-f
invariant-loop-f l = record {
  size : length l.lists ≡ l.f;
  lists : (k : ℕ) (list : List Sym) → slice_get l.lists k ≡ Some list → list ≡ symbols_among (has_pair l.pairs (Function k)) l.symbols;
}
