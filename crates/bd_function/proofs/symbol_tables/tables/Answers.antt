-- The tables are those of the rows, and keep the first ones.
use Rattle.std.proofs.Common.{map, ap, sym, ◌∙◌, subst, arith}
use Rattle.std.proofs.lemmas.List.{take_all}
use Rattle.bd_function.specs.Flat.{KeepsFirst}
use Rattle.bd_function.specs.Tables.{world_of_tables}
use Rattle.bd_function.specs.Values.{scalar_of}
use Rattle.bd_function.specs.inner.Scalars.{sym_table_from}
use Rattle.bd_function.proofs.Evaluating.{sym_tables_from}
use Rattle.bd_function.proofs.Tabling.{tables-KeepsFirst}
use Rattle.bd_function.proofs.symbol_tables.tables.Goals as goal

pub returns-clause-exact : goal.returns-clause-exact
returns-clause-exact c =
    let f = c.args.flat.now in
    let v = scalar_of c.args.values.now in
    c.from_vec.ensures ∙ c.loop-sym.invariant
    ∙ ap (map (sym_table_from v c.in_ok-scalars.scalars.items)) (take_all c.loop-sym.sym-index c.as_slice-sym-items.result.now (omega arith) ∙ c.as_slice-sym-items.ensures)
    ∙ sym_tables_from v f.graph c.in_ok-scalars.scalars.items c.in_ok-scalars.ensures.denotes f.syms

pub returns-clause-first : goal.returns-clause-first
returns-clause-first c =
    let f = c.args.flat.now in
    let v = scalar_of c.args.values.now in
    subst (λ ts. KeepsFirst (world_of_tables ts) v f.graph f.syms) (sym (returns-clause-exact c)) (tables-KeepsFirst v f.graph f.root f.syms f.flat)
