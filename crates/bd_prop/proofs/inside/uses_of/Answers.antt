use Rattle.std.proofs.Common.{◌≡◌, ◌∙◌, ◌-◌, ◌+◌, ◌<◌, ℕ, length, replicate, set, get_or, drop, ap, sym, subst, suc, arith}
use Rattle.std.proofs.lemmas.Grind.{common_steps}
use Rattle.std.proofs.lemmas.List.{get_or_default, length-replicate, length-set, take_at}
use Rattle.bd_prop.specs.Graph.{StandsAt}
use Rattle.bd_prop.specs.Node.{children}
use Rattle.bd_prop.specs.Inside.{use_at, use_children, uses_down, uses_of}
use Rattle.bd_prop.specs.declared.inside.Uses.TheVariants.{Nowhere, Elsewhere}
use Rattle.bd_prop.proofs.Forms.{read_node, read_stands}
use Rattle.bd_prop.proofs.Insides.{length-use_children, uses-start, uses-step}
use Rattle.bd_prop.proofs.inside.uses_of.Goals as goal

pub loop-id-init : goal.loop-id-init
loop-id-init c =
    let start : c.in_ok-uses.uses.items ≡ replicate (length c.args.nodes.now) Nowhere = grind (arith, common_steps) in
    record {
      size = length-set c.in_ok-uses.uses.items c.args.root Elsewhere ∙ ap length start ∙ length-replicate (length c.args.nodes.now) Nowhere;
      left = uses-start c.args.nodes.now c.args.root c.in_ok-uses.uses.items start;
    }

pub use_children-requires : goal.use_children-requires
use_children-requires c = λ k d h.
    let nodes = c.args.nodes.now in
    let id = c.loop-id.id - 1 in
    let inside : id < length nodes = omega arith in
    let n = c.index-nodes-id.result in
    let at : StandsAt nodes id n = read_stands nodes id n inside c.index-nodes-id.is in
    let low : get_or (children n) k d < id = c.requires.graph id n at k d h in
    let size : length c.loop-id.uses.items ≡ length nodes = c.loop-id.invariant.size in
    let slice : length c.as_mut_slice.result.now ≡ length c.loop-id.uses.items = ap length c.as_mut_slice.ensures.value in
    omega arith

pub loop-id-preserved : goal.loop-id-preserved
loop-id-preserved c =
    let nodes = c.args.nodes.now in
    let id = c.loop-id.id - 1 in
    let inside : id < length nodes = omega arith in
    let uses = c.loop-id.uses.items in
    let size : length uses ≡ length nodes = c.loop-id.invariant.size in
    let n = c.index-nodes-id.result in
    let own = c.index-own.result.now in
    let new = c.use_children.new.uses in
    let made : new ≡ use_children own uses n = c.use_children.ensures ∙ ap (λ us. use_children own us n) c.as_mut_slice.ensures.value in
    let long : length new ≡ length uses = ap length made ∙ length-use_children own uses n in
    let whole : length new ≡ c.loop-id.uses.len = long ∙ sym (ap length c.as_mut_slice.ensures.value) ∙ c.as_mut_slice.ensures.len in
    let same = take_at new (drop (length new) uses) c.loop-id.uses.len whole in
    let used : own ≡ use_at uses id = c.index-own.ensures ∙ get_or_default uses id own Nowhere (omega arith) in
    let step = uses-step nodes id c.loop-id.id uses own n (omega arith) used (sym (read_node nodes id n inside c.index-nodes-id.is)) in
    record {
      size = ap length same ∙ long ∙ size;
      left = ap (uses_down nodes id) (same ∙ made) ∙ sym step ∙ c.loop-id.invariant.left;
    }

pub returns-clause-uses : goal.returns-clause-uses
returns-clause-uses c =
    let end : c.loop-id.id ≡ 0 = omega arith in
    ap (λ k. uses_down c.args.nodes.now k c.loop-id.uses.items) (sym end) ∙ c.loop-id.invariant.left
