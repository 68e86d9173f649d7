use Rattle.std.proofs.Common.{◌≡◌, ◌++◌, map}
use Rattle.std.specs.List.{zip}
use Rattle.std.specs.Iterator.Adapters.{zip_first, zip_second}
use Rattle.std.specs.Slice.Iter.{iter_rest}
use Rattle.bd_model.specs.declared.table.Table.{Table}
use Rattle.bd_model.specs.declared.design.Entry.{Entry}
use Rattle.bd_case.specs.Content.{value_of_table}
use Rattle.bd_case.proofs.whole.state.Given as goal

abbrev pub invariant-loop-entry : goal.invariant-loop-entry
invariant-loop-entry l =
    l.state.items ++ map (λ (p : Entry × Table). value_of_table p.0.sort p.1) (zip (iter_rest (zip_first l.entry-iterator)) (iter_rest (zip_second l.entry-iterator)))
    ≡ map (λ (p : Entry × Table). value_of_table p.0.sort p.1) (zip l.entries l.tables)
