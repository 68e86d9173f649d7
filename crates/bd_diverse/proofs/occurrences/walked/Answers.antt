-- The pass downwards keeps that each mark is a walk's, and marks what walks go on to.
use Rattle.std.proofs.Common.{◌≡◌, ℕ, suc, ◌-◌, ◌<◌, ◌++◌, true, length, slice_get, take, drop, Some, ap, sym, ◌∙◌, subst, arith, replicate}
use Rattle.std.proofs.lemmas.Grind.{common_steps}
use Rattle.std.specs.List.{All}
use Rattle.std.proofs.lemmas.List.{get_or_default}
use Rattle.std.proofs.lemmas.Option.{slice_get_within}
use Rattle.std.proofs.Math.Seq.{take-append_seam}
use Rattle.bd_terms.specs.Graph.{children}
use Rattle.bd_terms.proofs.Graphs.{FitsSorts-get}
use Rattle.bd_terms.proofs.Reaching.{children-inside}
use Rattle.bd_diverse.specs.inner.Walked.{flows, is_any, no_way, ways_at, with_flows}
use Rattle.bd_diverse.proofs.Passing.{IsWalked, IsWalked-exact, IsWalked-mark, IsWalked-root}
use Rattle.bd_diverse.proofs.occurrences.walked.Goals as goal

pub loop-index-init : goal.loop-index-init
loop-index-init c =
    let e : c.in_ok-marks.marks.items ≡ replicate (length c.args.graph.now) no_way = grind (arith, common_steps) in
    rw (c.len-index.ensures.len, e, c.index.ensures) (IsWalked-root c.args.graph.now c.args.root c.requires)

pub mark_steps-requires : goal.mark_steps-requires
mark_steps-requires c =
    let size : length c.deref_mut.result.now ≡ length c.args.graph.now = ap length c.deref_mut.ensures.value ∙ c.loop-index.invariant.size in
    subst (λ n. All (λ k. k < n) (children c.node.result.now)) (sym size)
    (children-inside c.args.graph.now c.node.result.now (FitsSorts-get c.args.graph.now c.node.ensures.graph c.id.result c.node.result.now c.node.ensures.node))

pub loop-index-preserved-then-is_any : goal.loop-index-preserved-then-is_any
loop-index-preserved-then-is_any c =
    let place : ℕ = c.loop-index.index - 1 in
    let items = c.loop-index.marks.items in
    let there : slice_get c.args.graph.now place ≡ Some c.node.result.now = ap (slice_get c.args.graph.now) (sym c.id.ensures) ∙ c.node.ensures.node in
    let inside : place < length items = omega (arith, slice_get_within c.args.graph.now place c.node.result.now there, c.loop-index.invariant.size) in
    let next : suc place ≡ c.loop-index.index = omega arith in
    let size : c.loop-index.marks.len ≡ length c.mark_steps.new.marks = grind (arith, common_steps) in
    let here : c.index-ways.result.now ≡ ways_at items place = sym (get_or_default items place no_way c.index-ways.result.now inside ∙ sym c.index-ways.ensures) in
    let whole = ap (λ n. take n (c.mark_steps.new.marks ++ drop (length c.mark_steps.new.marks) items)) size
    ∙ take-append_seam c.mark_steps.new.marks (drop (length c.mark_steps.new.marks) items)
    ∙ c.mark_steps.ensures
    ∙ ap (λ l. with_flows l (flows c.index-ways.result.now c.node.result.now)) c.deref_mut.ensures.value
    ∙ ap (λ w. with_flows items (flows w c.node.result.now)) here in
    let any : is_any (ways_at items place) ≡ true = ap is_any (sym here) ∙ sym c.is_any.ensures ∙ c.if-is_any.true in
    subst (IsWalked c.args.graph.now c.args.root place) (sym whole)
    (IsWalked-mark c.args.graph.now c.node.ensures.graph c.args.root place items c.node.result.now
    (subst (λ i. IsWalked c.args.graph.now c.args.root i items) (sym next) c.loop-index.invariant) any there)

pub returns-clause-ways : goal.returns-clause-ways
returns-clause-ways c =
    let last : c.loop-index.index ≡ 0 = omega arith in
    IsWalked-exact c.args.graph.now c.args.root c.loop-index.marks.items
    (subst (λ i. IsWalked c.args.graph.now c.args.root i c.loop-index.marks.items) last c.loop-index.invariant)
