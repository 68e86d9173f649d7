use Rattle.bd_function.specs.Tables.{world_of_tables}
use Rattle.bd_diverse.specs.inner.Valued.{IsValued}
use Rattle.bd_diverse.proofs.scalars.scalars.Given as goal

abbrev pub invariant-loop-index : goal.invariant-loop-index
invariant-loop-index l = IsValued (world_of_tables l.tables) l.graph l.index l.done.items
