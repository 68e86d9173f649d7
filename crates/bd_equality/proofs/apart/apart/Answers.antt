use Rattle.std.proofs.Common.{◌↔◌, ◌⊎◌, [], Contains, sym, ◌∙◌, subst, arith, option_copied}
use Rattle.std.proofs.lemmas.List.{get_or_default}
use Rattle.bd_transitive.specs.declared.graph.Edge.{Edge}
use Rattle.bd_equality.specs.Edges.{IsApart}
use Rattle.bd_equality.specs.inner.Apart.{JoinsAll}
use Rattle.bd_equality.proofs.Groups.{JoinsGroups-start, JoinsGroups-more, JoinsGroups-end}
use Rattle.bd_equality.proofs.apart.apart.Goals as goal

pub loop-group-init : goal.loop-group-init
loop-group-init c = JoinsGroups-start c.args.flat.now.graph c.args.flat.now.syms c.as_slice-group-items.result.now (option_copied c.args.marked) c.new-pairs.result c.new-pairs.ensures

pub loop-group-preserved : goal.loop-group-preserved
loop-group-preserved c =
    let items = c.as_slice-group-items.result.now in
    let is = get_or_default items c.loop-group.group-index [] c.group-item.result (omega arith) ∙ sym c.group-item.is in
    JoinsGroups-more c.args.flat.now.graph c.args.flat.now.syms items (option_copied c.args.marked) c.in_ok-constants.constants c.in_ok-constants.ensures c.loop-group.group-index c.group-item.result c.in_ok-vertices.vertices.items
    c.loop-group.pairs c.join_all.new.pairs c.loop-group.invariant (omega arith) is c.in_ok-vertices.ensures
    (subst (λ l. (e : Edge) → Contains c.join_all.new.pairs e ↔ (Contains c.loop-group.pairs e ⊎ JoinsAll l l e)) c.deref.ensures.value c.in_ok-join_all.ensures)

pub returns : goal.returns
returns c = λ e.
    subst (λ l. Contains c.loop-group.pairs e ↔ IsApart c.args.flat.now.graph c.args.flat.now.syms l (option_copied c.args.marked) e) c.as_slice-group-items.ensures
    (JoinsGroups-end c.args.flat.now.graph c.args.flat.now.syms c.as_slice-group-items.result.now (option_copied c.args.marked) c.loop-group.group-index c.loop-group.pairs c.loop-group.invariant (omega arith) e)
