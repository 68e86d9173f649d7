use Rattle.std.proofs.Common.{◌≡◌, drop}
use Rattle.bd_terms.specs.inner.Marked.{marked}
use Rattle.bd_terms.proofs.reach.mark_children.Given as goal

abbrev pub invariant-loop-arg : goal.invariant-loop-arg
invariant-loop-arg l = marked l.marks (drop l.arg-index l.arg-items) ≡ marked l.initial.marks l.arg-items
