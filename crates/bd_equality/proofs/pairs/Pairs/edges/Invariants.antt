use Rattle.std.proofs.Common.{◌≡◌, map, take}
use Rattle.bd_equality.specs.inner.Sets.{edge_of}
use Rattle.bd_equality.proofs.pairs.Pairs.edges.Given as goal

abbrev pub invariant-loop-pair : goal.invariant-loop-pair
invariant-loop-pair l = l.edges ≡ map edge_of (take l.pair-index l.pair-items)
