use Rattle.std.proofs.Common.{◌≡◌, ◌++◌, length, map}
use Rattle.std.specs.List.{flat_map}
use Rattle.std.specs.Iterator.Adapters.{zip_first, zip_second}
use Rattle.std.specs.Slice.Iter.{iter_rest}
use Rattle.bd_case.specs.Text.{entry_line, state_nodes}
use Rattle.std.specs.List.{AllByRecursion}
use Rattle.bd_case.specs.Content.{IsShortTable, table_of_value}
use Rattle.bd_case.proofs.write.push_state.Given as goal

abbrev pub invariant-loop-entry : goal.invariant-loop-entry
invariant-loop-entry l = record {
  text :
      l.out.items ++ flat_map entry_line (state_nodes (iter_rest (zip_first l.entry-iterator)) (iter_rest (zip_second l.entry-iterator)))
      ≡ l.initial.out.items ++ flat_map entry_line (state_nodes l.entries l.values);
  same : length l.values ≡ length l.entries → length (iter_rest (zip_second l.entry-iterator)) ≡ length (iter_rest (zip_first l.entry-iterator));
  short : AllByRecursion IsShortTable (map table_of_value (iter_rest (zip_second l.entry-iterator))) → AllByRecursion IsShortTable (map table_of_value l.values);
}
