use Rattle.std.proofs.Common.{◌≡◌, ◌++◌, map, take}
use Rattle.bd_transitive.specs.inner.Spans.{edge_at}
use Rattle.bd_transitive.proofs.elimination.filled.Given as goal

abbrev pub invariant-loop-span : goal.invariant-loop-span
invariant-loop-span l = l.edges.items ≡ l.given ++ map (edge_at l.vertices) (take l.span-index l.span-items)
