use Rattle.std.proofs.Common.{◌≡◌, ◌++◌, map, drop}
use Rattle.std.specs.List.{AllByRecursion}
use Rattle.bd_text.specs.View.{nodes_from}
use Rattle.bd_text.specs.Written.{written_rest}
use Rattle.bd_case.specs.Content.{IsShortScalar, column}
use Rattle.bd_case.specs.Text.{scalar_node}
use Rattle.bd_case.proofs.line.push_column.Given as goal

abbrev pub invariant-loop-list : goal.invariant-loop-list
invariant-loop-list l = record {
  text :
      l.out.items ++ written_rest (nodes_from (map scalar_node (column l.i (drop l.list-index l.inputs))))
      ≡ l.initial.out.items ++ written_rest (nodes_from (map scalar_node (column l.i l.inputs)));
  short : AllByRecursion IsShortScalar (column l.i (drop l.list-index l.inputs)) → AllByRecursion IsShortScalar (column l.i l.inputs);
}
