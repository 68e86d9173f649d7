use Rattle.std.proofs.Common.{◌≡◌, ◌+◌, Ok, sym, subst, arith}
use Rattle.bd_model.specs.DesignView.{design_view}
use Rattle.bd_model.specs.declared.design.Sort.TheVariants as sort
use Rattle.bd_terms.proofs.Growth.{Extends-trans, HasSort-Extends, inside-Extends}
use Rattle.bd_terms.specs.declared.node.Node.TheVariants as node
use Rattle.bd_symbolic.proofs.Making.{called}
use Rattle.bd_goal.specs.Made.{IsStanding}
use Rattle.bd_goal.specs.inner.Shown.{AreConditions}
use Rattle.bd_goal.specs.Formula.{address_count}
use Rattle.bd_goal.proofs.Known.{KeepsAddresses-Known, KeepsDesign-Known, Known-none, Known-trans, Known-within}
use Rattle.bd_goal.proofs.Joining.{Commuting, SaysStands, commuting-more, commuting-none, commutes-made, commutes-said, conditions-later}
use Rattle.bd_goal.proofs.commute.commutes.Goals as goal
use Rattle.bd_symbolic.proofs.States.{HaveSorts-Extends}

pub stands-requires-clause-words : goal.stands-requires-clause-words
stands-requires-clause-words c =
    let d = design_view c.args.design.now in
    KeepsAddresses-Known d 0 _ _ (Known-within d 0 _ _ c.conditions.ensures.grows) c.requires.words

pub stands-requires-clause-after : goal.stands-requires-clause-after
stands-requires-clause-after c = HaveSorts-Extends _ _ c.conditions.ensures.grows.extends _ _ c.requires.after.sorted

pub stands-requires-clause-joined : goal.stands-requires-clause-joined
stands-requires-clause-joined c = HaveSorts-Extends _ _ c.conditions.ensures.grows.extends _ _ c.requires.before.sorted

pub returns-in_err-whens-clause-grows : goal.returns-in_err-whens-clause-grows
returns-in_err-whens-clause-grows c = Known-within (design_view c.args.design.now) _ _ _ c.conditions.ensures.grows

pub returns-in_err-any-clause-grows : goal.returns-in_err-any-clause-grows
returns-in_err-any-clause-grows c =
    let d = design_view c.args.design.now in
    Known-trans d _ _ _ _ (Known-within d _ _ _ c.conditions.ensures.grows) c.stands.ensures.grows

pub loop-done-init : goal.loop-done-init
loop-done-init c =
    let d = design_view c.args.design.now in
    subst (λ ws. Commuting d c.args.graph.now c.stands.new.graph c.args.state.now ws c.args.before c.args.after.now c.args.before c.args.first 0 c.in_ok-any.any) (sym c.whens.view_is)
    (commuting-none d _ _ _ c.args.state.now _ c.args.before c.args.after.now c.args.first _ c.conditions.ensures.grows c.in_ok-whens.ensures.whens c.in_ok-whens.ensures.denotes c.requires.after c.requires.before c.stands.ensures.grows
    c.in_ok-any.ensures.sorted c.in_ok-any.ensures.says c.in_ok-whens.ensures.made c.in_ok-any.ensures.made)

pub sym_spec_step-requires-clause-keeps : goal.sym_spec_step-requires-clause-keeps
sym_spec_step-requires-clause-keeps c = KeepsDesign-Known (design_view c.args.design.now) _ _ _ c.loop-done.invariant.grows c.requires.keeps

pub sym_spec_step-requires-clause-sorted : goal.sym_spec_step-requires-clause-sorted
sym_spec_step-requires-clause-sorted c = c.loop-done.invariant.joined_sorted.sorted

pub sym_spec_step-requires-clause-inputs : goal.sym_spec_step-requires-clause-inputs
sym_spec_step-requires-clause-inputs c = c.loop-done.invariant.joined_sorted.inputs

pub stands-requires-in-loop-done-clause-words : goal.stands-requires-in-loop-done-clause-words
stands-requires-in-loop-done-clause-words c =
    let d = design_view c.args.design.now in
    let n = c.args.first + address_count d in
    KeepsAddresses-Known d _ _ _ (Known-trans d n _ _ _ c.loop-done.invariant.grows (Known-within d n _ _ c.sym_spec_step.ensures.grows)) c.requires.words

pub stands-requires-in-loop-done-clause-whens : goal.stands-requires-in-loop-done-clause-whens
stands-requires-in-loop-done-clause-whens c =
    let d = design_view c.args.design.now in
    subst (AreConditions d c.sym_spec_step.new.graph) c.whens.view_is (conditions-later d _ _ c.sym_spec_step.ensures.grows.extends _ c.loop-done.invariant.conditions)

pub stands-requires-in-loop-done-clause-after : goal.stands-requires-in-loop-done-clause-after
stands-requires-in-loop-done-clause-after c = HaveSorts-Extends _ _ c.sym_spec_step.ensures.grows.extends _ _ c.loop-done.invariant.after_sorted.sorted

pub returns-clause-sorted : goal.returns-clause-sorted
returns-clause-sorted c = c.loop-done.invariant.sorted

pub returns-clause-says : goal.returns-clause-says
returns-clause-says c =
    let d = design_view c.args.design.now in
    let last : c.loop-done.done ≡ d.steps = omega (arith, c.loop-done-test.false, c.loop-done.auto.done-end) in
    commutes-said d _ _ c.args.state.now _ c.args.before c.args.after.now _ c.args.first _ _ last c.loop-done.invariant

pub returns-clause-grows : goal.returns-clause-grows
returns-clause-grows c = c.loop-done.invariant.grows

pub returns-in_err-joined-clause-grows : goal.returns-in_err-joined-clause-grows
returns-in_err-joined-clause-grows c =
    let d = design_view c.args.design.now in
    let n = c.args.first + address_count d in
    Known-trans d n _ _ _ c.loop-done.invariant.grows (Known-within d n _ _ c.sym_spec_step.ensures.grows)

pub returns-in_err-one-clause-grows : goal.returns-in_err-one-clause-grows
returns-in_err-one-clause-grows c =
    let d = design_view c.args.design.now in
    let n = c.args.first + address_count d in
    Known-trans d n _ _ _ c.loop-done.invariant.grows (Known-trans d n _ _ _ (Known-within d n _ _ c.sym_spec_step.ensures.grows) c.stands-in-loop-done.ensures.grows)

pub mk_or-requires-clause-first : goal.mk_or-requires-clause-first
mk_or-requires-clause-first c = HasSort-Extends _ _ (Extends-trans _ _ _ c.sym_spec_step.ensures.grows.extends c.stands-in-loop-done.ensures.grows.extends) _ sort.Bool c.loop-done.invariant.sorted

pub returns-in_err-any-2-clause-grows : goal.returns-in_err-any-2-clause-grows
returns-in_err-any-2-clause-grows c =
    let d = design_view c.args.design.now in
    let n = c.args.first + address_count d in
    Known-trans d n _ _ _ c.loop-done.invariant.grows
    (Known-trans d n _ _ _ (Known-within d n _ _ c.sym_spec_step.ensures.grows) (Known-trans d n _ _ _ c.stands-in-loop-done.ensures.grows (Known-none d n _ _ c.mk_or.ensures.extends c.mk_or.ensures.uses)))

pub loop-done-preserved : goal.loop-done-preserved
loop-done-preserved c =
    let d = design_view c.args.design.now in
    let says = subst (λ ws. SaysStands d c.sym_spec_step.new.graph c.stands-in-loop-done.new.graph ws c.args.after.now.entries c.in_ok-joined.joined.entries c.args.first (c.loop-done.done + 1) c.in_ok-one.one) (sym c.whens.view_is) c.in_ok-one.ensures.says in
    let made = subst (λ ws. IsStanding c.stands-in-loop-done.new.graph d ws c.args.after.now.entries c.in_ok-joined.joined.entries c.args.first (c.loop-done.done + 1) c.in_ok-one.one) (sym c.whens.view_is) c.in_ok-one.ensures.made in
    commuting-more d _ _ _ _ _ c.args.state.now _ c.args.before c.args.after.now _ _ c.args.first c.loop-done.done _ _ _ c.loop-done.invariant c.sym_spec_step.ensures.grows
    (record { sorted = c.in_ok-joined.ensures.sorted; inputs = c.in_ok-joined.ensures.inputs }) c.in_ok-joined.ensures.denotes c.stands-in-loop-done.ensures.grows c.in_ok-one.ensures.sorted says
    c.mk_or.ensures.extends c.mk_or.ensures.uses c.in_ok-any-2.ensures.sorted c.in_ok-any-2.ensures.denotes c.in_ok-joined.ensures.made made
    (called _ _ (node.Or c.loop-done.any c.in_ok-one.one) (Ok _)
    (inside-Extends _ _ (Extends-trans _ _ _ c.sym_spec_step.ensures.grows.extends c.stands-in-loop-done.ensures.grows.extends) _ c.loop-done.invariant.sorted.inside, (c.in_ok-one.ensures.sorted.inside, tt)) c.in_ok-any-2.ensures.simplified)

pub returns-clause-made : goal.returns-clause-made
returns-clause-made c =
    let d = design_view c.args.design.now in
    let last : c.loop-done.done ≡ d.steps = omega (arith, c.loop-done-test.false, c.loop-done.auto.done-end) in
    commutes-made d _ _ c.args.state.now _ c.args.before c.args.after.now _ c.args.first _ _ last c.loop-done.invariant
