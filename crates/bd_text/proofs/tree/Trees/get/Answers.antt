use Rattle.std.proofs.Common.{option_map, sym, ap, ◌∙◌}
use Rattle.bd_text.specs.Nodes.{node_at}
use Rattle.bd_text.specs.View.{node_of}
use Rattle.bd_text.proofs.Views.{copied_item, node_at-nodes_of_all, nodes_of-items}
use Rattle.bd_text.proofs.tree.Trees.get.Goals as goal

pub returns : goal.returns
returns c =
    let trees = c.args.self.now in
    let i = c.args.index in
    ap (option_map node_of) (copied_item trees.items.items i c.get.result (rw c.deref.ensures.value at c.get.ensures.lookup))
    ∙ sym (ap (λ ts. node_at ts i) (nodes_of-items trees) ∙ node_at-nodes_of_all trees.items.items i)
