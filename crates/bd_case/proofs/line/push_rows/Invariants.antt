use Rattle.std.proofs.Common.{◌≡◌, ◌++◌, map, drop}
use Rattle.bd_text.specs.View.{nodes_from}
use Rattle.bd_text.specs.Written.{written_rest}
use Rattle.bd_case.specs.Text.{row_node}
use Rattle.std.specs.List.{AllByRecursion}
use Rattle.bd_case.specs.Content.{IsShortRow}
use Rattle.bd_case.proofs.line.push_rows.Given as goal

abbrev pub invariant-loop-row : goal.invariant-loop-row
invariant-loop-row l = record {
  text :
      l.out.items ++ written_rest (nodes_from (map row_node (drop l.row-index l.rows)))
      ≡ l.initial.out.items ++ written_rest (nodes_from (map row_node l.rows));
  short : AllByRecursion IsShortRow (drop l.row-index l.rows) → AllByRecursion IsShortRow l.rows;
}
