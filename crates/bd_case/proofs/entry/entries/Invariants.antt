use Rattle.std.proofs.Common.{◌≡◌, length, drop}
use Rattle.bd_text.specs.View.{nodes_of_all}
use Rattle.bd_model.specs.DesignView.{design_view}
use Rattle.bd_case.specs.Reading.{entries_form}
use Rattle.bd_case.proofs.entry.entries.Given as goal

abbrev pub invariant-loop-tree : goal.invariant-loop-tree
invariant-loop-tree l = record {
  given : length l.given.items ≡ length l.initial.given.items;
  read :
      entries_form l.frame.layout (design_view l.frame.design.now) l.given.items (nodes_of_all (drop l.tree-index l.trees))
      ≡ entries_form l.frame.layout (design_view l.frame.design.now) l.initial.given.items (nodes_of_all l.trees);
}
