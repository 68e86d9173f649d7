use Rattle.std.proofs.Common.{◌≡◌, ◌++◌, drop}
use Rattle.std.specs.List.{flat_map}
use Rattle.bd_case.specs.Text.{entry_line, symbol_nodes}
use Rattle.std.specs.List.{AllByRecursion}
use Rattle.bd_case.specs.Content.{IsShortTable}
use Rattle.bd_case.proofs.write.push_symbols.Given as goal

abbrev pub invariant-loop-f : goal.invariant-loop-f
invariant-loop-f l = record {
  text :
      l.out.items ++ flat_map entry_line (symbol_nodes l.version l.distinct l.f-counter (drop l.f-counter l.symbols) (drop l.f-counter l.tables))
      ≡ l.initial.out.items ++ flat_map entry_line (symbol_nodes l.version l.distinct 0 l.symbols l.tables);
  short : AllByRecursion IsShortTable (drop l.f-counter l.tables) → AllByRecursion IsShortTable l.tables;
}
