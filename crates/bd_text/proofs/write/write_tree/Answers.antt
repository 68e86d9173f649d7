use Rattle.std.proofs.Common.{◌≡◌, ◌<◌, ◌++◌, length, Some, sym, ap, ◌∙◌, arith}
use Rattle.bd_text.specs.Nodes.{node_at, node_count}
use Rattle.bd_text.specs.View.{node_of, nodes_of}
use Rattle.bd_text.specs.Written.{written}
use Rattle.bd_text.proofs.Views.{node_at-within, node_count-nodes_of_all, nodes_of-items}
use Rattle.bd_text.proofs.write.write_tree.Goals as goal

pub index-requires : goal.index-requires
index-requires c =
    let trees = c.args.trees.now in
    omega (arith, c.requires.which, trees.items.ok.0, ap node_count (nodes_of-items trees), node_count-nodes_of_all trees.items.items)

pub returns : goal.returns
returns c =
    let trees = c.args.trees.now in
    let tree = c.index.result.now in
    let which = c.args.which in
    let within : which < length trees.items.items =
    omega (arith, c.requires.which, ap node_count (nodes_of-items trees), node_count-nodes_of_all trees.items.items) in
    let found : node_at (nodes_of trees) which ≡ Some (node_of tree) =
    ap (λ ts. node_at ts which) (nodes_of-items trees) ∙ node_at-within trees.items.items which tree within
    ∙ ap (λ t. Some (node_of t)) (sym c.index.ensures) in
    rw found (c.in_ok-push_tree.ensures ∙ ap (λ bytes. bytes ++ written (node_of tree)) c.new-out.ensures.items)
