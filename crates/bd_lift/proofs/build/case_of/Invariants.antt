use Rattle.std.proofs.Common.{◌≡◌, ◌++◌, List, length}
use Rattle.bd_model.specs.DesignView.{design_view}
use Rattle.bd_symbolic.specs.Widened.{widened}
use Rattle.bd_function.specs.declared.symbol_tables.SymTable.{SymTable}
use Rattle.bd_function.specs.Tables.{world_of_tables}
use Rattle.bd_lift.specs.inner.Built.{IsBuilt}
use Rattle.bd_lift.proofs.build.case_of.Given as goal

-- the tables that are taken, and the rest before them
abbrev pub invariant-loop-table : goal.invariant-loop-table
invariant-loop-table l = (done : List SymTable) × (l.rest.items ++ done ≡ l.fn.tables) × IsBuilt (widened (design_view l.design) l.cycles) (length l.vertices) (world_of_tables done) l.case.interp.items l.case.state.items l.case.inputs.items

abbrev pub decreases-loop-table : goal.decreases-loop-table
decreases-loop-table l = length l.rest.items
