use Rattle.std.proofs.Common.{◌≡◌, drop, map}
use Rattle.bd_text.specs.View.{nodes_of_all}
use Rattle.bd_syntax.specs.Reading.{each_form, item_form}
use Rattle.bd_syntax.specs.Forms.{item_view}
use Rattle.bd_syntax.proofs.EachForm.{with_front}
use Rattle.bd_syntax.proofs.read_item.items.Given as goal

abbrev pub invariant-loop-tree : goal.invariant-loop-tree
invariant-loop-tree l = with_front (map item_view l.items.items) (each_form (item_form l.place) (nodes_of_all (drop l.tree-index l.trees))) ≡ each_form (item_form l.place) (nodes_of_all l.trees)
