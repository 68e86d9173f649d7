use Rattle.bd_diverse.specs.inner.Applied.{is_compared}
use Rattle.bd_diverse.proofs.Applying.{Collects}
use Rattle.bd_diverse.proofs.finding.compared.Given as goal

abbrev pub invariant-loop-index : goal.invariant-loop-index
invariant-loop-index l = Collects l.graph (is_compared l.marks) (λ s. Unit {0}) l.index l.found.keys
