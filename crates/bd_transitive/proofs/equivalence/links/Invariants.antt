use Rattle.bd_transitive.specs.Triangle.{value_at}
use Rattle.bd_transitive.specs.inner.Links.{AreLinks}
use Rattle.bd_transitive.proofs.equivalence.links.Given as goal

abbrev pub invariant-loop-e : goal.invariant-loop-e
invariant-loop-e l = AreLinks l.spans (value_at l.values) l.count l.e l.links.items
