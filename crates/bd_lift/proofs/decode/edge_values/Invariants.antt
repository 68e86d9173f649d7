use Rattle.std.proofs.Common.{◌≡◌, map, take}
use Rattle.bd_lift.specs.Decoded.{edge_truth}
use Rattle.bd_lift.proofs.decode.edge_values.Given as goal

abbrev pub invariant-loop-edge : goal.invariant-loop-edge
invariant-loop-edge l = l.truths.items ≡ map (edge_truth l.values) (take l.edge-index l.edge-items)
