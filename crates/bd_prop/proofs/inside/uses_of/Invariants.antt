use Rattle.std.proofs.Common.{◌≡◌, length}
use Rattle.bd_prop.specs.Inside.{uses_down, uses_of}
use Rattle.bd_prop.proofs.inside.uses_of.Given as goal

abbrev pub invariant-loop-id : goal.invariant-loop-id
invariant-loop-id l = record {
  size : length l.uses.items ≡ length l.nodes;
  left : uses_down l.nodes l.id l.uses.items ≡ uses_of l.nodes l.root;
}
