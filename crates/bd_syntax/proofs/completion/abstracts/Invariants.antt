use Rattle.std.proofs.Common.{◌≡◌, drop, map}
use Rattle.bd_text.specs.View.{nodes_of_all}
use Rattle.bd_syntax.specs.Completion.{abstract_form, abstract_view}
use Rattle.bd_syntax.specs.Reading.{each_form}
use Rattle.bd_syntax.proofs.EachForm.{with_front}
use Rattle.bd_syntax.proofs.completion.abstracts.Given as goal

abbrev pub invariant-loop-tree : goal.invariant-loop-tree
invariant-loop-tree l = with_front (map abstract_view l.parts.items) (each_form abstract_form (nodes_of_all (drop l.tree-index l.trees))) ≡ each_form abstract_form (nodes_of_all l.trees)
