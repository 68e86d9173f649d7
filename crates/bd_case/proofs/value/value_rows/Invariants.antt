use Rattle.std.proofs.Common.{◌≡◌, drop}
use Rattle.bd_text.specs.View.{nodes_of_all}
use Rattle.bd_syntax.specs.Reading.{each_form}
use Rattle.bd_syntax.proofs.EachForm.{with_front}
use Rattle.bd_case.specs.Reading.{value_form}
use Rattle.bd_case.proofs.value.value_rows.Given as goal

abbrev pub invariant-loop-tree : goal.invariant-loop-tree
invariant-loop-tree l = with_front l.values.items (each_form (value_form l.sort) (nodes_of_all (drop l.tree-index l.trees))) ≡ each_form (value_form l.sort) (nodes_of_all l.trees)
