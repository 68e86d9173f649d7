use Rattle.std.proofs.Common.{slice_set, ◌++◌, ◌∷◌, [], ap, ◌∙◌}
use Rattle.bd_function.specs.declared.symbol_tables.SymTable.{SymTable}
use Rattle.bd_diverse.specs.inner.Rows.{table_with_row}
use Rattle.bd_diverse.proofs.Rowing.{set-row_pushed}
use Rattle.bd_diverse.proofs.adding.push_row.Goals as goal

pub returns : goal.returns
returns c =
    let old = c.args.tables.now.items in
    let held : SymTable = c.index_mut.result.now in
    ap (λ l. slice_set old c.args.place (record { sym = held.sym; table = record { default = held.table.default; rows = l } })) c.in_ok-push.ensures.ok
    ∙ ap (λ (t : SymTable). slice_set old c.args.place (table_with_row t c.args.row)) c.index_mut.ensures.value
    ∙ set-row_pushed old c.args.place _ c.args.row c.requires
