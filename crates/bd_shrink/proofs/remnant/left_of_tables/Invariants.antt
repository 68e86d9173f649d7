use Rattle.std.proofs.Common.{List, [], ◌∷◌, drop}
use Rattle.bd_model.specs.declared.table.Table.{Table}
use Rattle.bd_shrink.specs.Remnant.{after_table, table_left}
use Rattle.bd_shrink.specs.declared.fate.Fate.{Fate}
use Rattle.bd_shrink.proofs.Left.{IsLeft}
use Rattle.bd_shrink.proofs.remnant.left_of_tables.Given as goal

abbrev pub invariant-loop-table : goal.invariant-loop-table
invariant-loop-table l =
    IsLeft (λ (fs : List Fate) (t : Table). table_left fs t ∷ []) after_table (drop l.fn.at l.fates) l.tables l.left.items (drop l.at l.fates) (drop l.table-index l.tables)
