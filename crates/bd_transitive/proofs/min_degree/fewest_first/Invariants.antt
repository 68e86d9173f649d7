use Rattle.std.specs.HashMap.{hash_map_len}
use Rattle.bd_transitive.proofs.Eliminating.{IsTaken}
use Rattle.bd_transitive.proofs.min_degree.fewest_first.Given as goal

abbrev pub invariant-loop-vertex : goal.invariant-loop-vertex
invariant-loop-vertex l = IsTaken l.edges l.left l.order.items

abbrev pub decreases-loop-vertex : goal.decreases-loop-vertex
decreases-loop-vertex l = hash_map_len l.left.neighbours
