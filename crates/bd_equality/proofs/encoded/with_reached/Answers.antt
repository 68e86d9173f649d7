use Rattle.std.proofs.Common.{◌≡◌, ◌↔◌, ◌⊎◌, true, false, slice_index_or, Contains, sym, subst, arith}
use Rattle.bd_prop.specs.Graph.{Reaches}
use Rattle.bd_prop.proofs.Forms.{read_stands}
use Rattle.bd_equality.specs.Edges.{ReachesEdge}
use Rattle.bd_equality.proofs.Reached.{AddsReached-start, AddsReached-more, AddsReached-end}
use Rattle.bd_equality.proofs.encoded.with_reached.Goals as goal

pub loop-id-init : goal.loop-id-init
loop-id-init c = AddsReached-start c.nodes-nodes.result.now c.args.root c.args.pairs

pub loop-id-preserved : goal.loop-id-preserved
loop-id-preserved c =
    let nodes = c.nodes-nodes.result.now in
    let reached = c.in_ok-marks.ensures.marks c.loop-id.id in
    let marks = subst (λ l. (slice_index_or l c.loop-id.id false ≡ true) ↔ Reaches c.args.prop.now c.args.root c.loop-id.id) (sym c.as_slice.ensures) reached in
    AddsReached-more nodes c.args.root c.loop-id.id c.args.pairs c.loop-id.pairs c.add_edge.new.pairs c.index-nodes-id.result (slice_index_or c.as_slice.result.now c.loop-id.id false) c.loop-id.invariant
    (read_stands nodes c.loop-id.id c.index-nodes-id.result c.loop-id-test.true c.index-nodes-id.is)
    (subst (λ l. (slice_index_or c.as_slice.result.now c.loop-id.id false ≡ true) ↔ Reaches l c.args.root c.loop-id.id) (sym c.nodes-nodes.ensures.value) marks)
    c.in_ok-add_edge.ensures

pub returns-clause-edges : goal.returns-clause-edges
returns-clause-edges c = λ e.
    subst (λ l. Contains c.loop-id.pairs e ↔ (ReachesEdge l c.args.root e ⊎ Contains c.args.pairs e)) c.nodes-nodes.ensures.value
    (AddsReached-end c.nodes-nodes.result.now c.args.root c.loop-id.id c.args.pairs c.loop-id.pairs c.loop-id.invariant (omega arith) e)
