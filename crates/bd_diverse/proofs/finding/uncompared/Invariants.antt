use Rattle.std.proofs.Common.{Contains}
use Rattle.bd_diverse.specs.inner.Applied.{is_reached}
use Rattle.bd_diverse.proofs.Applying.{Collects}
use Rattle.bd_diverse.proofs.finding.uncompared.Given as goal

abbrev pub invariant-loop-index : goal.invariant-loop-index
invariant-loop-index l = Collects l.graph (is_reached l.marks) (λ s. ¬ Contains l.compared.keys s) l.index l.symbols.keys
