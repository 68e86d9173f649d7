-- Trees as contracts see them.
use Rattle.std.specs.Prelude.{List, [], ◌∷◌, map}
use Rattle.bd_text.specs.Nodes.{Node, atom, list, Nodes, no_nodes, node}
use Rattle.bd_text.specs.declared.tree.Tree.{Tree}
use Rattle.bd_text.specs.declared.tree.Tree.TheOpen.{Tree-F, Trees-F}
use Rattle.bd_text.specs.declared.tree.Tree.TheFolds.{fold-Tree, fold-Trees}
use Rattle.bd_text.specs.declared.tree.Trees.{Trees}

-- nodes from a list
abbrev pub nodes_from : List Node → Nodes
nodes_from [] = no_nodes
nodes_from (t ∷ ts) = node t (nodes_from ts)

-- one level, with what stands below it already seen
abbrev pub tree_step : Tree-F Node Nodes → Node
tree_step (Tree-F.Atom offset text) = atom offset text
tree_step (Tree-F.List offset parts) = list offset parts

abbrev pub trees_step : Trees-F Node Nodes → Nodes
trees_step ts = nodes_from ts.items.items

abbrev pub node_of : Tree → Node
node_of = fold-Tree Node Nodes tree_step trees_step

abbrev pub nodes_of : Trees → Nodes
nodes_of = fold-Trees Node Nodes tree_step trees_step

abbrev pub nodes_of_all : List Tree → Nodes
nodes_of_all ts = nodes_from (map node_of ts)
