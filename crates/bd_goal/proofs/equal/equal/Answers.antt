use Rattle.std.proofs.Common.{◌<◌, Ok, ap, arith, length}
use Rattle.bd_model.specs.DesignView.{design_view}
use Rattle.bd_model.specs.declared.design.Sort.TheVariants as sort
use Rattle.bd_terms.proofs.Growth.{HasSort-Extends, inside-Extends}
use Rattle.bd_terms.specs.declared.node.Node.TheVariants as node
use Rattle.bd_symbolic.proofs.Making.{called}
use Rattle.bd_goal.proofs.Lists.{get-there}
use Rattle.bd_goal.proofs.Equalling.{IsAt, address-fits, advance-le, equalled-all, equalled-made, equalled-next, equalled-none, equalled-refused, ids-length, is-at}
use Rattle.bd_goal.proofs.Known.{Known-none, Known-trans}
use Rattle.bd_goal.proofs.equal.equal.Goals as goal

pub loop-i-init : goal.loop-i-init
loop-i-init c =
    equalled-none (design_view c.args.design.now) _ _ c.args.ours.now c.args.theirs.now c.args.first c.args.stride _ c.mk_true.ensures.graph c.mk_true.ensures.extends c.mk_true.ensures.uses c.in_ok-all.ensures.sorted c.in_ok-all.ensures.denotes (called _ _ node.True (Ok _) tt c.in_ok-all.ensures.simplified)

pub bounds-our-i : goal.bounds-our-i
bounds-our-i c =
    omega (arith, c.loop-i-test.true, ap length c.as_slice-entry-items.ensures, ids-length (design_view c.args.design.now) c.args.graph.now c.args.ours.now c.requires.ours, ap length c.as_slice-our.ensures)

pub bounds-their-i : goal.bounds-their-i
bounds-their-i c =
    omega (arith, c.loop-i-test.true, ap length c.as_slice-entry-items.ensures, ids-length (design_view c.args.design.now) c.args.graph.now c.args.theirs.now c.requires.theirs, ap length c.as_slice-their.ensures)

pub equal_terms-requires-clause-our : goal.equal_terms-requires-clause-our
equal_terms-requires-clause-our c =
    let d = design_view c.args.design.now in
    let within_our : c.loop-i.i < length c.as_slice-our.result.now = omega (arith, c.loop-i-test.true, ap length c.as_slice-entry-items.ensures, ids-length d c.args.graph.now c.args.ours.now c.requires.ours, ap length c.as_slice-our.ensures) in
    let within_their : c.loop-i.i < length c.as_slice-their.result.now = omega (arith, c.loop-i-test.true, ap length c.as_slice-entry-items.ensures, ids-length d c.args.graph.now c.args.theirs.now c.requires.theirs, ap length c.as_slice-their.ensures) in
    let there = get-there c.as_slice-entry-items.result.now c.args.design.now.spec.entries c.loop-i.i c.entry-item.result c.as_slice-entry-items.ensures c.loop-i-test.true c.entry-item.is in
    let at : IsAt c.args.graph.now c.args.ours.now c.args.theirs.now c.loop-i.i c.index-our-i.result c.index-their-i.result c.entry-item.result.sort =
    is-at d c.args.graph.now c.args.ours.now c.args.theirs.now c.loop-i.i c.index-our-i.result c.index-their-i.result c.entry-item.result c.requires.ours c.requires.theirs there
    (get-there c.as_slice-our.result.now c.args.ours.now c.loop-i.i c.index-our-i.result c.as_slice-our.ensures within_our c.index-our-i.is)
    (get-there c.as_slice-their.result.now c.args.theirs.now c.loop-i.i c.index-their-i.result c.as_slice-their.ensures within_their c.index-their-i.is) in
    HasSort-Extends _ _ c.loop-i.invariant.extends _ _ at.our_sorted

pub equal_terms-requires-clause-their : goal.equal_terms-requires-clause-their
equal_terms-requires-clause-their c =
    let d = design_view c.args.design.now in
    let within_our : c.loop-i.i < length c.as_slice-our.result.now = omega (arith, c.loop-i-test.true, ap length c.as_slice-entry-items.ensures, ids-length d c.args.graph.now c.args.ours.now c.requires.ours, ap length c.as_slice-our.ensures) in
    let within_their : c.loop-i.i < length c.as_slice-their.result.now = omega (arith, c.loop-i-test.true, ap length c.as_slice-entry-items.ensures, ids-length d c.args.graph.now c.args.theirs.now c.requires.theirs, ap length c.as_slice-their.ensures) in
    let there = get-there c.as_slice-entry-items.result.now c.args.design.now.spec.entries c.loop-i.i c.entry-item.result c.as_slice-entry-items.ensures c.loop-i-test.true c.entry-item.is in
    let at : IsAt c.args.graph.now c.args.ours.now c.args.theirs.now c.loop-i.i c.index-our-i.result c.index-their-i.result c.entry-item.result.sort =
    is-at d c.args.graph.now c.args.ours.now c.args.theirs.now c.loop-i.i c.index-our-i.result c.index-their-i.result c.entry-item.result c.requires.ours c.requires.theirs there
    (get-there c.as_slice-our.result.now c.args.ours.now c.loop-i.i c.index-our-i.result c.as_slice-our.ensures within_our c.index-our-i.is)
    (get-there c.as_slice-their.result.now c.args.theirs.now c.loop-i.i c.index-their-i.result c.as_slice-their.ensures within_their c.index-their-i.is) in
    HasSort-Extends _ _ c.loop-i.invariant.extends _ _ at.their_sorted

pub equal_terms-requires-clause-address : goal.equal_terms-requires-clause-address
equal_terms-requires-clause-address c = (c.loop-i.invariant.keeps c.requires.addresses).keeps c.loop-i.address

pub mk_and-requires-clause-first : goal.mk_and-requires-clause-first
mk_and-requires-clause-first c = HasSort-Extends _ _ c.equal_terms.ensures.extends _ sort.Bool c.loop-i.invariant.sorted

pub returns-in_err-one-clause-grows : goal.returns-in_err-one-clause-grows
returns-in_err-one-clause-grows c =
    let d = design_view c.args.design.now in
    let there = get-there c.as_slice-entry-items.result.now c.args.design.now.spec.entries c.loop-i.i c.entry-item.result c.as_slice-entry-items.ensures c.loop-i-test.true c.entry-item.is in
    equalled-refused d _ _ _ c.args.ours.now c.args.theirs.now c.args.first c.args.stride c.loop-i.i _ _ c.index-our-i.result c.index-their-i.result c.entry-item.result _ there c.loop-i.invariant c.equal_terms.ensures

pub returns-in_err-all-2-clause-grows : goal.returns-in_err-all-2-clause-grows
returns-in_err-all-2-clause-grows c =
    let d = design_view c.args.design.now in
    let there = get-there c.as_slice-entry-items.result.now c.args.design.now.spec.entries c.loop-i.i c.entry-item.result c.as_slice-entry-items.ensures c.loop-i-test.true c.entry-item.is in
    λ n below.
    Known-trans d n _ _ _
    (equalled-refused d _ _ _ c.args.ours.now c.args.theirs.now c.args.first c.args.stride c.loop-i.i _ _ c.index-our-i.result c.index-their-i.result c.entry-item.result _ there c.loop-i.invariant c.equal_terms.ensures n below)
    (Known-none d n _ _ c.mk_and.ensures.extends c.mk_and.ensures.uses)

pub overflow_add-address : goal.overflow_add-address
overflow_add-address c =
    let fits = address-fits (design_view c.args.design.now) _ _ c.args.ours.now c.args.theirs.now c.args.first c.args.stride _ _ _ c.requires.lawful c.requires.few c.loop-i.invariant in
    omega (arith, fits, c.requires.few, c.requires.start, advance-le c.entry-item.result.sort c.args.stride, c.advance-address.ensures)

pub loop-i-preserved : goal.loop-i-preserved
loop-i-preserved c =
    let d = design_view c.args.design.now in
    let within_our : c.loop-i.i < length c.as_slice-our.result.now = omega (arith, c.loop-i-test.true, ap length c.as_slice-entry-items.ensures, ids-length d c.args.graph.now c.args.ours.now c.requires.ours, ap length c.as_slice-our.ensures) in
    let within_their : c.loop-i.i < length c.as_slice-their.result.now = omega (arith, c.loop-i-test.true, ap length c.as_slice-entry-items.ensures, ids-length d c.args.graph.now c.args.theirs.now c.requires.theirs, ap length c.as_slice-their.ensures) in
    let there = get-there c.as_slice-entry-items.result.now c.args.design.now.spec.entries c.loop-i.i c.entry-item.result c.as_slice-entry-items.ensures c.loop-i-test.true c.entry-item.is in
    let at : IsAt c.args.graph.now c.args.ours.now c.args.theirs.now c.loop-i.i c.index-our-i.result c.index-their-i.result c.entry-item.result.sort =
    is-at d c.args.graph.now c.args.ours.now c.args.theirs.now c.loop-i.i c.index-our-i.result c.index-their-i.result c.entry-item.result c.requires.ours c.requires.theirs there
    (get-there c.as_slice-our.result.now c.args.ours.now c.loop-i.i c.index-our-i.result c.as_slice-our.ensures within_our c.index-our-i.is)
    (get-there c.as_slice-their.result.now c.args.theirs.now c.loop-i.i c.index-their-i.result c.as_slice-their.ensures within_their c.index-their-i.is) in
    rw c.advance-address.ensures
    (equalled-next d _ _ _ _ c.args.ours.now c.args.theirs.now c.args.first c.args.stride c.loop-i.i _ _ _ _ _ _ c.entry-item.result c.requires.ours c.requires.theirs at there
    c.mk_and.ensures.graph c.loop-i.invariant c.in_ok-one.ensures c.mk_and.ensures.extends c.mk_and.ensures.uses c.in_ok-all-2.ensures.sorted c.in_ok-all-2.ensures.denotes
    (called _ _ (node.And c.loop-i.all c.in_ok-one.one) (Ok _) (inside-Extends _ _ c.equal_terms.ensures.extends _ c.loop-i.invariant.sorted.inside, (c.in_ok-one.ensures.sorted.inside, tt)) c.in_ok-all-2.ensures.simplified))

pub returns-clause-says : goal.returns-clause-says
returns-clause-says c =
    equalled-all (design_view c.args.design.now) _ _ c.args.ours.now c.args.theirs.now c.args.first c.args.stride c.loop-i.i _ _ c.requires.ours c.requires.theirs
    (omega (arith, c.loop-i-test.false, ap length c.as_slice-entry-items.ensures)) c.loop-i.invariant

pub returns-clause-grows : goal.returns-clause-grows
returns-clause-grows c = c.loop-i.invariant.grows

pub returns-clause-made : goal.returns-clause-made
returns-clause-made c =
    equalled-made (design_view c.args.design.now) _ _ c.args.ours.now c.args.theirs.now c.args.first c.args.stride c.loop-i.i _ _ (omega (arith, c.loop-i-test.false, ap length c.as_slice-entry-items.ensures)) c.loop-i.invariant
