-- What the nodes of a truth graph denote.
use Rattle.std.specs.Prelude.{ℕ, Bool, false, List, [], slice_index_or}
use Rattle.bd_list.specs.Grown.{grown}
use Rattle.bd_prop.specs.declared.atom.Atom.{Atom}
use Rattle.bd_prop.specs.declared.node.PropNode.{PropNode}
use Rattle.bd_prop.specs.Node.{node_truth}

-- the values of all nodes, each from those of the nodes before it
unfoldable pub truths : (Atom → Bool) → List PropNode → List Bool
truths values nodes = grown (λ done n. node_truth values (λ c. slice_index_or done c false) n) [] nodes

-- what the node denotes under these values of the atoms
unfoldable pub truth_at : (Atom → Bool) → List PropNode → ℕ → Bool
truth_at values nodes id = slice_index_or (truths values nodes) id false
