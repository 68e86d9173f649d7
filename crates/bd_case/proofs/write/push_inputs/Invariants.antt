use Rattle.std.proofs.Common.{◌≡◌, ◌++◌, map, drop}
use Rattle.std.specs.List.{AllByRecursion, flat_map}
use Rattle.bd_model.specs.DesignView.{port_view}
use Rattle.bd_case.specs.Content.{IsShortTable, input_tables}
use Rattle.bd_case.specs.Text.{entry_line, input_nodes}
use Rattle.bd_case.proofs.write.push_inputs.Given as goal

abbrev pub invariant-loop-i : goal.invariant-loop-i
invariant-loop-i l = record {
  text :
      l.out.items ++ flat_map entry_line (input_nodes l.i (map port_view (drop l.i l.ports)) l.inputs)
      ≡ l.initial.out.items ++ flat_map entry_line (input_nodes 0 (map port_view l.ports) l.inputs);
  short : AllByRecursion IsShortTable (input_tables l.i (map port_view (drop l.i l.ports)) l.inputs) → AllByRecursion IsShortTable (input_tables 0 (map port_view l.ports) l.inputs);
}
