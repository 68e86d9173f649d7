use Rattle.std.proofs.Common.{◌≡◌, ◌+◌, ◌-◌, ◌<◌, ◌∙◌, ℕ, true, false, length, get_or, set, ap, sym, subst, arith, rules}
use Rattle.std.proofs.lemmas.List.{take_at, get_or_default}
use Rattle.bd_prop.specs.Node.{children}
use Rattle.bd_prop.specs.Graph.{StandsAt}
use Rattle.bd_prop.proofs.Forms.{read_stands}
use Rattle.bd_prop.proofs.Marking.{AreMarks, AreMarks-start, AreMarks-down, marked_from_reach, off_at_start, mark_all, length-mark_all}
use Rattle.bd_prop.proofs.reach.reached.Goals as goal

pub loop-id-init : goal.loop-id-init
loop-id-init c =
    let same = c.nodes-nodes.ensures.value in
    let size : length c.in_ok-marks.marks.items ≡ length c.args.prop.now = search rules in
    let off : (id : ℕ) → get_or c.in_ok-marks.marks.items id false ≡ false = λ id. ap (λ ms. get_or ms id false) (c.in_ok-marks.ensures.items_if_clones_equal (λ y e. e)) ∙ off_at_start _ id in
    subst (λ n. AreMarks c.args.prop.now c.args.root n (set c.in_ok-marks.marks.items c.args.root true)) (ap length (sym same))
    (AreMarks-start c.args.prop.now c.nodes-nodes.ensures.graph c.args.root c.in_ok-marks.marks.items c.requires size off)

pub mark_children-requires : goal.mark_children-requires
mark_children-requires c = λ k d h.
    let ns = c.nodes-nodes.result.now in
    let id = c.loop-id.id - 1 in
    let inside : id < length ns = omega arith in
    let node = c.index-nodes-id.result in
    let at : StandsAt c.args.prop.now id node = subst (λ xs. StandsAt xs id node) c.nodes-nodes.ensures.value (read_stands ns id node inside c.index-nodes-id.is) in
    let low : get_or (children node) k d < id = c.nodes-nodes.ensures.graph id node at k d h in
    let size : length c.loop-id.marks.items ≡ length c.args.prop.now = c.loop-id.invariant.size in
    let long : length ns ≡ length c.args.prop.now = ap length c.nodes-nodes.ensures.value in
    let slice : length c.as_mut_slice.result.now ≡ length c.loop-id.marks.items = ap length c.as_mut_slice.ensures.value in
    omega arith

pub loop-id-preserved-then-index : goal.loop-id-preserved-then-index
loop-id-preserved-then-index c =
    let ns = c.nodes-nodes.result.now in
    let prop = c.args.prop.now in
    let root = c.args.root in
    let id = c.loop-id.id - 1 in
    let marks = c.loop-id.marks.items in
    let new = c.mark_children.new.marks in
    let inside : id < length ns = omega arith in
    let node = c.index-nodes-id.result in
    let at : StandsAt prop id node = subst (λ xs. StandsAt xs id node) c.nodes-nodes.ensures.value (read_stands ns id node inside c.index-nodes-id.is) in
    let long : length ns ≡ length prop = ap length c.nodes-nodes.ensures.value in
    let size : length marks ≡ length prop = c.loop-id.invariant.size in
    let back : id + 1 ≡ c.loop-id.id = omega arith in
    let marked : get_or marks id false ≡ true = get_or_default marks id false c.index.result.now (omega arith) ∙ sym c.index.ensures ∙ c.if-index.true in
    let made : new ≡ mark_all marks (children node) = c.mark_children.ensures ∙ ap (λ ms. mark_all ms (children node)) c.as_mut_slice.ensures.value in
    let whole : length new ≡ c.loop-id.marks.len = ap length made ∙ length-mark_all (children node) marks ∙ sym (ap length c.as_mut_slice.ensures.value) ∙ c.as_mut_slice.ensures.len in
    let down = AreMarks-down prop c.nodes-nodes.ensures.graph root id node marks (omega arith) at marked (subst (λ n. AreMarks prop root n marks) (sym back) c.loop-id.invariant) in
    subst (AreMarks prop root id) (sym (take_at new _ c.loop-id.marks.len whole ∙ made)) down

pub returns-clause-marks : goal.returns-clause-marks
returns-clause-marks c =
    let start : c.loop-id.id ≡ 0 = omega arith in
    let is = subst (λ n. AreMarks c.args.prop.now c.args.root n c.loop-id.marks.items) start c.loop-id.invariant in
    λ id.
    let same = ap (λ ms. get_or ms id false) c.from_vec.ensures in
    (λ m. is.sound id (sym same ∙ m), λ up. same ∙ marked_from_reach c.args.prop.now c.nodes-nodes.ensures.graph c.args.root c.loop-id.marks.items is id up)
