use Rattle.bd_function.specs.Tables.{world_of_tables}
use Rattle.bd_diverse.specs.inner.Spread.{Spreading}
use Rattle.bd_diverse.proofs.diverse.spread.Given as goal

abbrev pub invariant-loop-index : goal.invariant-loop-index
invariant-loop-index l =
    Spreading l.old.positive l.old.bound (world_of_tables l.tables) l.graph l.fn.root l.index l.done.items (world_of_tables l.spread.items)
