use Rattle.std.proofs.Common.{◌≡◌, ◌∙◌, ◌-◌, ◌+◌, ◌<◌, ◌≤◌, ◌++◌, ◌∷◌, [], ℕ, List, length, take, get_or, ap, sym, subst, suc, arith}
use Rattle.std.proofs.lemmas.List.{get_or_default, length-take-le}
use Rattle.bd_prop.specs.Graph.{StandsAt}
use Rattle.bd_prop.specs.Node.{children}
use Rattle.bd_prop.specs.Inside.{height, heights, use_at, uses_of}
use Rattle.bd_prop.specs.declared.inside.Uses.{Uses}
use Rattle.bd_prop.specs.declared.inside.Uses.TheVariants.{Nowhere}
use Rattle.bd_prop.specs.declared.node.PropNode.{PropNode}
use Rattle.bd_prop.proofs.Forms.{read_stands}
use Rattle.bd_prop.proofs.Insides.{heights-none, heights-more, length-heights}
use Rattle.bd_prop.proofs.inside.heights_of.Goals as goal

pub loop-id-init : goal.loop-id-init
loop-id-init c = c.in_ok-heights.ensures.items ∙ sym (heights-none (uses_of c.args.nodes.now c.args.root))

pub index-requires : goal.index-requires
index-requires c = omega (arith, c.in_ok-uses.ensures.len)

pub height-height-requires : goal.height-height-requires
height-height-requires c = λ k d h.
    let nodes = c.args.nodes.now in
    let id = c.loop-id.id in
    let n = c.index-nodes-id.result in
    let at : StandsAt nodes id n = read_stands nodes id n c.loop-id-test.true c.index-nodes-id.is in
    let low : get_or (children n) k d < id = c.requires.graph id n at k d h in
    let size : length c.loop-id.heights.items ≡ id = ap length c.loop-id.invariant ∙ length-heights (take id nodes) (uses_of nodes c.args.root) ∙ length-take-le id nodes (omega arith) in
    let slice : length c.deref.result.now ≡ length c.loop-id.heights.items = ap length c.deref.ensures.value in
    omega arith

pub loop-id-preserved : goal.loop-id-preserved
loop-id-preserved c =
    let nodes = c.args.nodes.now in
    let id = c.loop-id.id in
    let uses = uses_of nodes c.args.root in
    let n = c.index-nodes-id.result in
    let own = c.index.result.now in
    let done = c.loop-id.heights.items in
    let table = c.in_ok-uses.uses.items in
    let used : own ≡ use_at uses id = c.index.ensures ∙ get_or_default table id own Nowhere (omega (arith, c.in_ok-uses.ensures.len)) ∙ ap (λ (us : List Uses). use_at us id) c.in_ok-uses.ensures.uses in
    c.in_ok-push.ensures.items ∙ ap (λ (h : ℕ). done ++ h ∷ []) (c.height-height.ensures ∙ ap (λ hs. height own hs n) c.deref.ensures.value)
    ∙ sym (heights-more nodes uses id own n done c.loop-id-test.true (sym c.index-nodes-id.is) used c.loop-id.invariant)

pub returns-clause-len : goal.returns-clause-len
returns-clause-len c =
    let nodes = c.args.nodes.now in
    let id = c.loop-id.id in
    let last : id ≤ length nodes = c.loop-id.auto.id-end in
    ap length c.loop-id.invariant ∙ length-heights (take id nodes) (uses_of nodes c.args.root) ∙ length-take-le id nodes last ∙ omega arith
