use Rattle.std.proofs.Common.{Ok, refl, length, ap, arith, eqb-true, eq-eqb}
use Rattle.bd_model.specs.DesignView.{design_view, exact_view}
use Rattle.bd_model.specs.declared.design.Sort.TheVariants as sort
use Rattle.bd_terms.proofs.Growth.{AddsUses-trans, HasSort-Extends, inside-Extends}
use Rattle.bd_terms.specs.declared.node.Node.TheVariants as node
use Rattle.bd_symbolic.proofs.Making.{called}
use Rattle.bd_goal.proofs.Lists.{get-there, map-length, map-there, map-within}
use Rattle.bd_goal.proofs.Joining.{allows-all, allows-made, allows-next, allows-none, condition-sorted}
use Rattle.bd_goal.proofs.commute.allowed.Goals as goal

pub bounds-as_slice-i : goal.bounds-as_slice-i
bounds-as_slice-i c =
    let within = map-within exact_view c.as_slice-exact-items.result.now c.args.design.now.exact c.loop-i.i c.as_slice-exact-items.ensures c.loop-i-test.true in
    omega (arith, within, c.requires.count, ap length c.as_slice.ensures)

pub unless-requires : goal.unless-requires
unless-requires c =
    let within = map-within exact_view c.as_slice-exact-items.result.now c.args.design.now.exact c.loop-i.i c.as_slice-exact-items.ensures c.loop-i-test.true in
    HasSort-Extends _ _ c.loop-i.invariant.extends _ sort.Bool
    (condition-sorted (design_view c.args.design.now) _ c.args.whens.now c.requires c.loop-i.i _
    (get-there c.as_slice.result.now c.args.whens.now c.loop-i.i _ c.as_slice.ensures (omega (arith, within, c.requires.count, ap length c.as_slice.ensures)) c.index-as_slice-i.is))

pub returns-in_err-one-clause-uses : goal.returns-in_err-one-clause-uses
returns-in_err-one-clause-uses c = AddsUses-trans _ _ _ _ c.loop-i.invariant.uses c.unless.ensures.uses

pub mk_and-requires-clause-first : goal.mk_and-requires-clause-first
mk_and-requires-clause-first c = HasSort-Extends _ _ c.unless.ensures.extends _ sort.Bool c.loop-i.invariant.sorted

pub returns-in_err-all-2-clause-uses : goal.returns-in_err-all-2-clause-uses
returns-in_err-all-2-clause-uses c = AddsUses-trans _ _ _ _ (AddsUses-trans _ _ _ _ c.loop-i.invariant.uses c.unless.ensures.uses) c.mk_and.ensures.uses

pub loop-i-preserved : goal.loop-i-preserved
loop-i-preserved c =
    let within = map-within exact_view c.as_slice-exact-items.result.now c.args.design.now.exact c.loop-i.i c.as_slice-exact-items.ensures c.loop-i-test.true in
    let there = map-there exact_view c.as_slice-exact-items.result.now c.args.design.now.exact c.loop-i.i c.exact-item.result c.as_slice-exact-items.ensures c.loop-i-test.true c.exact-item.is in
    let at = get-there c.as_slice.result.now c.args.whens.now c.loop-i.i c.index-as_slice-i.result c.as_slice.ensures (omega (arith, within, c.requires.count, ap length c.as_slice.ensures)) c.index-as_slice-i.is in
    allows-next (design_view c.args.design.now) _ _ _ _ c.args.whens.now c.args.j c.loop-i.i _ _ _ _ _ (exact_view c.exact-item.result) c.requires there at
    (λ t. eqb-true c.exact-item.result.count c.args.j t, λ e. eq-eqb c.exact-item.result.count c.args.j e) c.loop-i.invariant c.unless.ensures.extends c.unless.ensures.uses c.in_ok-one.ensures.denotes
    c.mk_and.ensures.extends c.mk_and.ensures.uses c.in_ok-all-2.ensures.sorted c.in_ok-all-2.ensures.denotes refl c.in_ok-one.ensures.made
    (called _ _ (node.And c.loop-i.all c.in_ok-one.one) (Ok _) (inside-Extends _ _ c.unless.ensures.extends _ c.loop-i.invariant.sorted.inside, (c.in_ok-one.ensures.sorted.inside, tt)) c.in_ok-all-2.ensures.simplified)

pub returns-clause-says : goal.returns-clause-says
returns-clause-says c =
    allows-all (design_view c.args.design.now) _ _ c.args.whens.now c.args.j c.loop-i.i _
    (map-length exact_view c.as_slice-exact-items.result.now c.args.design.now.exact c.loop-i.i c.as_slice-exact-items.ensures c.loop-i-test.false) c.loop-i.invariant

pub loop-i-init : goal.loop-i-init
loop-i-init c =
    allows-none (design_view c.args.design.now) _ _ c.args.whens.now c.args.j _ c.mk_true.ensures.extends c.mk_true.ensures.uses c.in_ok-all.ensures.sorted c.in_ok-all.ensures.denotes (called _ _ node.True (Ok _) tt c.in_ok-all.ensures.simplified)

pub returns-clause-made : goal.returns-clause-made
returns-clause-made c =
    allows-made (design_view c.args.design.now) _ _ c.args.whens.now c.args.j c.loop-i.i _
    (map-length exact_view c.as_slice-exact-items.result.now c.args.design.now.exact c.loop-i.i c.as_slice-exact-items.ensures c.loop-i-test.false) c.loop-i.invariant
