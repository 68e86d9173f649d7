-- A node more.
use Rattle.std.proofs.Common.{◌≡◌, slice_get, Some, ap, sym, ◌∙◌, subst, arith, length}
use Rattle.std.proofs.lemmas.List.{take_all}
use Rattle.bd_function.specs.Values.{held}
use Rattle.bd_lift.specs.inner.Steps.{AreDecodedSo, word_by}
use Rattle.bd_lift.proofs.Decoding.{AreDecodedSo-more, AreDecodedSo-none, small-at}
use Rattle.bd_lift.proofs.decode.decode_all.Goals as goal

pub loop-index-init : goal.loop-index-init
loop-index-init c = AreDecodedSo-none (word_by c.args.ends.now.entries (length c.args.vertices.now)) c.args.values.now (held c.new-decoded.result)

pub decode_node-requires : goal.decode_node-requires
decode_node-requires c =
    let f = c.args.flat.now in
    let at : slice_get f.graph c.loop-index.index ≡ Some c.node-node.result.now = ap (slice_get f.graph) (sym c.id.ensures) ∙ c.node-node.ensures.node in
    small-at f.graph c.loop-index.index c.node-node.result.now at f.small

pub loop-index-preserved : goal.loop-index-preserved
loop-index-preserved c =
    let f = c.args.flat.now in
    let at : slice_get f.graph c.loop-index.index ≡ Some c.node-node.result.now = ap (slice_get f.graph) (sym c.id.ensures) ∙ c.node-node.ensures.node in
    AreDecodedSo-more f.graph c.node-node.ensures.graph c.loop-index.index c.node-node.result.now at (word_by c.args.ends.now.entries (length c.args.vertices.now)) c.args.values.now (held c.loop-index.decoded) (held c.decode_node.new.decoded)
    c.loop-index.invariant c.in_ok-decode_node.ensures

pub returns : goal.returns
returns c =
    subst (λ nodes. AreDecodedSo nodes (word_by c.args.ends.now.entries (length c.args.vertices.now)) c.args.values.now (held c.loop-index.decoded))
    (take_all c.loop-index.index c.args.flat.now.graph (omega (arith, c.len-index-end.ensures.len))) c.loop-index.invariant
