use Rattle.std.proofs.Common.{◌∙◌}
use Rattle.bd_prop.proofs.Forms.{below_negation, read_node}
use Rattle.bd_prop.proofs.form.is_false.Goals as goal

pub is_true-requires : goal.is_true-requires
is_true-requires c =
    let nodes = c.args.nodes.now in
    below_negation nodes c.args.id c.in-Not.a c.requires.graph c.requires.within (read_node nodes c.args.id c.index-nodes-id.result c.requires.within c.index-nodes-id.is ∙ c.in-Not.is)
