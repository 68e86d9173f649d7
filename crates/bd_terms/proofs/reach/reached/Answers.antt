-- The pass downwards keeps what is marked reached, and marks what marked nodes stand over.
use Rattle.std.proofs.Common.{◌≡◌, ℕ, suc, ◌-◌, ◌<◌, ◌++◌, false, true, length, slice_get, take, drop, Some, ap, sym, ◌∙◌, subst, arith, replicate}
use Rattle.std.proofs.lemmas.Grind.{common_steps}
use Rattle.std.specs.List.{All}
use Rattle.bd_terms.specs.Graph.{children}
use Rattle.bd_terms.proofs.Graphs.{FitsSorts-get}
use Rattle.bd_terms.proofs.Reaching.{IsMarked, IsMarked-root, IsMarked-mark, IsMarked-reached, children-inside, mark_at}
use Rattle.bd_terms.specs.inner.Marked.{marked}
use Rattle.std.proofs.lemmas.List.{get_or_default}
use Rattle.std.proofs.lemmas.Option.{slice_get_within}
use Rattle.std.proofs.Math.Seq.{take-append_seam}
use Rattle.bd_terms.proofs.reach.reached.Goals as goal

pub loop-index-init : goal.loop-index-init
loop-index-init c =
    let e : c.in_ok-items.items.items ≡ replicate (length c.args.graph.now) false = grind (arith, common_steps) in
    rw (c.len-index.ensures.len, e, c.index.ensures) (IsMarked-root c.args.graph.now c.args.root c.requires)

pub mark_children-requires : goal.mark_children-requires
mark_children-requires c =
    let size : length c.deref_mut.result.now ≡ length c.args.graph.now = ap length c.deref_mut.ensures.value ∙ c.loop-index.invariant.size in
    subst (λ n. All (λ k. k < n) (children c.node.result.now)) (sym size)
    (children-inside c.args.graph.now c.node.result.now (FitsSorts-get c.args.graph.now c.node.ensures.graph c.id.result c.node.result.now c.node.ensures.node))

pub loop-index-preserved-then-index : goal.loop-index-preserved-then-index
loop-index-preserved-then-index c =
    let place : ℕ = c.loop-index.index - 1 in
    let items = c.loop-index.items.items in
    let there : slice_get c.args.graph.now place ≡ Some c.node.result.now = ap (slice_get c.args.graph.now) (sym c.id.ensures) ∙ c.node.ensures.node in
    let inside : place < length items = omega (arith, slice_get_within c.args.graph.now place c.node.result.now there, c.loop-index.invariant.size) in
    let next : suc place ≡ c.loop-index.index = omega arith in
    let size : c.loop-index.items.len ≡ length c.mark_children.new.marks = grind (arith, common_steps) in
    let whole = ap (λ n. take n (c.mark_children.new.marks ++ drop (length c.mark_children.new.marks) items)) size
    ∙ take-append_seam c.mark_children.new.marks (drop (length c.mark_children.new.marks) items)
    ∙ c.mark_children.ensures ∙ ap (λ l. marked l (children c.node.result.now)) c.deref_mut.ensures.value in
    let here : mark_at items place ≡ true =
    get_or_default items place false c.index-in-loop-index.result.now inside ∙ sym c.index-in-loop-index.ensures ∙ c.if-index.true in
    subst (IsMarked c.args.graph.now c.args.root place) (sym whole)
    (IsMarked-mark c.args.graph.now c.node.ensures.graph c.args.root place items c.node.result.now
    (subst (λ i. IsMarked c.args.graph.now c.args.root i items) (sym next) c.loop-index.invariant) here there)

pub returns-clause-marks : goal.returns-clause-marks
returns-clause-marks c =
    let last : c.loop-index.index ≡ 0 = omega arith in
    let m = subst (λ i. IsMarked c.args.graph.now c.args.root i c.loop-index.items.items) last c.loop-index.invariant in
    λ id. (m.sound id, IsMarked-reached c.args.graph.now c.args.root c.loop-index.items.items m id)
