use Rattle.std.proofs.Common.{◌≡◌, ◌∙◌, ap, sym, inl, inr, Some, None}
use Rattle.bd_prop.specs.Gathered.{choice_node, leaf_of}
use Rattle.bd_prop.specs.declared.node.PropNode.TheVariants.{Tree}
use Rattle.bd_prop.proofs.Gatherings.{choice_node-tree, no_leaf}
use Rattle.bd_prop.proofs.gathering.choice_node.Goals as goal
use Rattle.bd_prop.proofs.gathering.choice_node.Goals.{in-Some+in_default-leaf_of, in_default}

pub returns-in-Some-leaf_of : goal.returns-in-Some-leaf_of
returns-in-Some-leaf_of c =
    let first : leaf_of c.args.yes.now ≡ Some c.in-Some.a = sym c.leaf_of.ensures ∙ c.in-Some.is in
    let second : leaf_of c.args.no.now ≡ Some c.in-Some-leaf_of.b = sym c.leaf_of-in-Some.ensures ∙ c.in-Some-leaf_of.is in
    λ i. choice_node c.args.control c.args.yes.now c.args.no.now (sym first i) (sym second i)

pub returns : goal.returns
returns c =
    ap Tree c.in_ok-items.ensures ∙ sym (choice_node-tree c.args.control c.args.yes.now c.args.no.now (leaf_of c.args.yes.now) (leaf_of c.args.no.now) (elim c.match-leaf_of.branch [
      | in-Some+in_default-leaf_of w ↦ inr (sym w.leaf_of-in-Some.ensures ∙ no_leaf w.leaf_of-in-Some.result w.in_default-leaf_of.not-Some)
      | in_default w ↦ inl (sym c.leaf_of.ensures ∙ no_leaf c.leaf_of.result w.in_default.not-Some)
    ]))
