use Rattle.std.proofs.Common.{◌≤◌, [], take}
use Rattle.bd_terms.specs.declared.node.Sym.{Sym}
use Rattle.bd_terms.specs.Denotation.{applied}
use Rattle.bd_function.specs.Tables.{world_of_tables}
use Rattle.bd_diverse.proofs.scalars.greatest_constant.Given as goal

abbrev pub invariant-loop-table : goal.invariant-loop-table
invariant-loop-table l = (s : Sym) → applied (world_of_tables (take l.table-index l.tables)) s [] ≤ l.most
