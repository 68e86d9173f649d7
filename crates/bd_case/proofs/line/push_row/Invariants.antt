use Rattle.std.proofs.Common.{◌≡◌, ◌++◌, ◌∷◌, [], map, drop}
use Rattle.bd_text.specs.View.{nodes_from}
use Rattle.bd_text.specs.Written.{written_parts}
use Rattle.bd_case.specs.Text.{word_node, scalar_node}
use Rattle.bd_case.proofs.line.push_row.Given as goal

abbrev pub invariant-loop-arg : goal.invariant-loop-arg
invariant-loop-arg l =
    l.out.items ++ written_parts (nodes_from (map word_node (drop l.arg-index l.args) ++ scalar_node l.value ∷ []))
    ≡ l.initial.out.items ++ written_parts (nodes_from (map word_node l.args ++ scalar_node l.value ∷ []))
