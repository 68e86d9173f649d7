use Rattle.std.proofs.Common.{ap, arith}
use Rattle.bd_text.specs.Nodes.{node_count}
use Rattle.bd_text.proofs.Views.{node_count-nodes_of_all, nodes_of-items}
use Rattle.bd_text.proofs.tree.Trees.len.Goals as goal

pub returns : goal.returns
returns c =
    let trees = c.args.self.now in
    omega (arith, trees.items.ok.0, ap node_count (nodes_of-items trees), node_count-nodes_of_all trees.items.items)
