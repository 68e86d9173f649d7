use Rattle.std.proofs.Common.{◌≡◌, ◌∷◌, ◌++◌, [], sym, get_or, ◌∙◌, arith}
use Rattle.std.proofs.lemmas.List.{map_more}
use Rattle.bd_transitive.specs.inner.Spans.{span_of, span_between}
use Rattle.bd_transitive.specs.declared.graph.Edge.{Edge}
use Rattle.bd_transitive.proofs.span.spans.Goals as goal

pub loop-edge-preserved : goal.loop-edge-preserved
loop-edge-preserved c =
    let ks = c.args.vertices.now.keys in
    let es = c.args.edges.now in
    let i = c.loop-edge.edge-index in
    let none : Edge = record { from = 0; to = 0 } in
    let step : c.between.result ≡ span_of ks (get_or es i none) = c.between.ensures ∙ (λ j. span_between (c.place_of-from.ensures j) (c.place_of-to.ensures j)) in
    c.in_ok-push.ensures.items ∙ (λ j. c.loop-edge.invariant j ++ step j ∷ []) ∙ sym (map_more (span_of ks) es i none (omega arith))
