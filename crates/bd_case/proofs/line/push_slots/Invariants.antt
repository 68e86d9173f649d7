use Rattle.std.proofs.Common.{◌≡◌, ◌++◌, map, drop}
use Rattle.bd_text.specs.View.{nodes_from}
use Rattle.bd_text.specs.Written.{written_rest}
use Rattle.bd_case.specs.Text.{row_node}
use Rattle.std.specs.List.{AllByRecursion}
use Rattle.bd_case.specs.Content.{IsShortRow, row_of}
use Rattle.bd_case.proofs.line.push_slots.Given as goal

abbrev pub invariant-loop-slot : goal.invariant-loop-slot
invariant-loop-slot l = record {
  text :
      l.out.items ++ written_rest (nodes_from (map row_node (map row_of (drop l.slot-index l.slots))))
      ≡ l.initial.out.items ++ written_rest (nodes_from (map row_node (map row_of l.slots)));
  short : AllByRecursion IsShortRow (map row_of (drop l.slot-index l.slots)) → AllByRecursion IsShortRow (map row_of l.slots);
}
