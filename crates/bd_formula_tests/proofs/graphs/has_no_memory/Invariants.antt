use Rattle.std.proofs.Common.{◌≡◌, ℕ, ◌<◌}
use Rattle.bd_model.specs.declared.design.Sort.TheVariants as kind
use Rattle.bd_terms.specs.Graph.{sort_at}
use Rattle.bd_formula_tests.proofs.graphs.has_no_memory.Given as goal

abbrev pub invariant-loop-index : goal.invariant-loop-index
invariant-loop-index l = (k : ℕ) → k < l.index → sort_at l.graph k ≡ kind.Memory → ⊥
