use Rattle.std.proofs.Common.{◌+◌}
use Rattle.bd_model.specs.DesignView.{design_view}
use Rattle.bd_model.specs.declared.design.Sort.TheVariants as sort
use Rattle.bd_terms.proofs.Growth.{HasSort-Extends, inside-Extends}
use Rattle.bd_terms.specs.declared.node.Node.TheVariants as node
use Rattle.bd_symbolic.proofs.Making.{called}
use Rattle.bd_goal.specs.Formula.{address_count}
use Rattle.bd_goal.proofs.Known.{KeepsAddresses-Known, Known-none, Known-trans}
use Rattle.bd_goal.proofs.Joining.{below-count, stands-made, stands-said}
use Rattle.bd_goal.proofs.commute.stands.Goals as goal
use Rattle.bd_symbolic.proofs.States.{HaveSorts-Extends}

pub equal-requires-clause-addresses : goal.equal-requires-clause-addresses
equal-requires-clause-addresses c =
    let d = design_view c.args.design.now in
    KeepsAddresses-Known d 0 _ _ (Known-none d 0 _ _ c.allowed.ensures.extends c.allowed.ensures.uses) c.requires.words

pub equal-requires-clause-ours : goal.equal-requires-clause-ours
equal-requires-clause-ours c = HaveSorts-Extends _ _ c.allowed.ensures.extends _ _ c.requires.after

pub equal-requires-clause-theirs : goal.equal-requires-clause-theirs
equal-requires-clause-theirs c = HaveSorts-Extends _ _ c.allowed.ensures.extends _ _ c.requires.joined

pub mk_and-requires-clause-first : goal.mk_and-requires-clause-first
mk_and-requires-clause-first c =
    let d = design_view c.args.design.now in
    HasSort-Extends _ _ (c.equal.ensures.grows (c.args.first + address_count d) (below-count d c.args.first c.args.j c.requires.few)).extends _ sort.Bool c.in_ok-allowed.ensures.sorted

pub returns-clause-says : goal.returns-clause-says
returns-clause-says c =
    let d = design_view c.args.design.now in
    stands-said d _ _ _ _ c.args.whens.now c.args.after.now c.args.joined.now c.args.first c.args.j _ _ _ c.allowed.ensures.extends
    (c.equal.ensures.grows (c.args.first + address_count d) (below-count d c.args.first c.args.j c.requires.few)).extends c.in_ok-allowed.ensures.sorted c.in_ok-allowed.ensures.says
    c.requires.after c.requires.joined c.in_ok-same.ensures.says c.mk_and.ensures.denotes

pub returns-clause-grows : goal.returns-clause-grows
returns-clause-grows c =
    let d = design_view c.args.design.now in
    let n = c.args.first + address_count d in
    Known-trans d n _ _ _ (Known-none d n _ _ c.allowed.ensures.extends c.allowed.ensures.uses)
    (Known-trans d n _ _ _ (c.equal.ensures.grows n (below-count d c.args.first c.args.j c.requires.few)) (Known-none d n _ _ c.mk_and.ensures.extends c.mk_and.ensures.uses))

pub returns-in_err-allowed-clause-grows : goal.returns-in_err-allowed-clause-grows
returns-in_err-allowed-clause-grows c = Known-none (design_view c.args.design.now) _ _ _ c.allowed.ensures.extends c.allowed.ensures.uses

pub returns-in_err-same-clause-grows : goal.returns-in_err-same-clause-grows
returns-in_err-same-clause-grows c =
    let d = design_view c.args.design.now in
    let n = c.args.first + address_count d in
    Known-trans d n _ _ _ (Known-none d n _ _ c.allowed.ensures.extends c.allowed.ensures.uses) (c.equal.ensures.grows n (below-count d c.args.first c.args.j c.requires.few))

pub returns-clause-made : goal.returns-clause-made
returns-clause-made c =
    let d = design_view c.args.design.now in
    let grows = (c.equal.ensures.grows (c.args.first + address_count d) (below-count d c.args.first c.args.j c.requires.few)).extends in
    stands-made d _ _ _ c.args.whens.now c.args.after.now c.args.joined.now c.args.first c.args.j _ _ c.mk_and.result grows c.mk_and.ensures.extends c.in_ok-allowed.ensures.made c.in_ok-same.ensures.made
    (called _ _ (node.And c.in_ok-allowed.allowed c.in_ok-same.same) c.mk_and.result (inside-Extends _ _ grows _ c.in_ok-allowed.ensures.sorted.inside, (c.in_ok-same.ensures.sorted.inside, tt)) c.mk_and.ensures.simplified)
