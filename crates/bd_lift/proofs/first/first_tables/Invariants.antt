use Rattle.bd_lift.specs.inner.First.{AreAlike, RowsDiffer}
use Rattle.bd_lift.proofs.first.first_tables.Given as goal

abbrev pub invariant-loop-sym : goal.invariant-loop-sym
invariant-loop-sym l = record { alike : AreAlike l.yielded l.first.items; differ : RowsDiffer l.first.items }
