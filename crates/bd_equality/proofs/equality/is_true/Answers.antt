use Rattle.std.proofs.Common.{Some, ap, ◌∙◌}
use Rattle.bd_terms.specs.declared.node.Node.TheVariants.{True}
use Rattle.bd_equality.proofs.Flats.{truth_is}
use Rattle.bd_equality.proofs.equality.is_true.Goals as goal

pub returns-in-True : goal.returns-in-True
returns-in-True c = λ _ v. truth_is c.args.graph.now c.node.ensures.graph c.args.id True (c.node.ensures.node ∙ ap Some c.in-True.is) v
