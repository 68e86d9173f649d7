-- What a node stands over is in its graph.
use Rattle.std.proofs.Common.{Some, ap, ◌∙◌}
use Rattle.bd_terms.specs.declared.node.Node.TheVariants.{Not}
use Rattle.bd_terms.proofs.Graphs.{FitsSorts-get}
use Rattle.bd_terms.proofs.graph.Graph.is_false.Goals as goal

pub is_true-requires : goal.is_true-requires
is_true-requires c =
    (FitsSorts-get c.args.self.now c.node.ensures.graph c.args.id (Not c.in-Not.a) (c.node.ensures.node ∙ ap Some c.in-Not.is)).inside
