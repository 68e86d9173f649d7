use Rattle.std.proofs.Common.{◌≡◌, take}
use Rattle.bd_prop.specs.Inside.{heights, uses_of}
use Rattle.bd_prop.proofs.inside.heights_of.Given as goal

abbrev pub invariant-loop-id : goal.invariant-loop-id
invariant-loop-id l = l.heights.items ≡ heights (take l.id l.nodes) (uses_of l.nodes l.root)
