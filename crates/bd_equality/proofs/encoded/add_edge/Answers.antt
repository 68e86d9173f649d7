use Rattle.std.proofs.Common.{ap, ◌∙◌}
use Rattle.bd_prop.specs.declared.node.PropNode.TheVariants.{Atom as AtomOf}
use Rattle.bd_equality.proofs.Reached.{added_edge}
use Rattle.bd_equality.proofs.encoded.add_edge.Goals as goal

pub returns-in_ok-insert : goal.returns-in_ok-insert
returns-in_ok-insert c =
    added_edge c.args.is_reached c.args.node.now c.in-Edge.from c.in-Edge.to c.args.pairs.now c.insert.new.self c.if-is_reached.true (c.in-Atom.is ∙ ap AtomOf c.in-Edge.is) c.in_ok-insert.ensures
