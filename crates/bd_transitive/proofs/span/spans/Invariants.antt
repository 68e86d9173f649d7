use Rattle.std.proofs.Common.{◌≡◌, map, take}
use Rattle.bd_transitive.specs.inner.Spans.{span_of}
use Rattle.bd_transitive.proofs.span.spans.Given as goal

abbrev pub invariant-loop-edge : goal.invariant-loop-edge
invariant-loop-edge l = l.spans.items ≡ map (span_of l.vertices.keys) (take l.edge-index l.edges)
