use Rattle.bd_slice.specs.declared.graph.SupportNode.TheVariants as node
use Rattle.bd_slice.proofs.graph.SupportGraph.both.Goals as goal

pub returns-clause-first : goal.returns-clause-first
returns-clause-first c = λ d o h has. (h.each _ (node.Both c.args.a c.args.b) c.in_ok-node.ensures.at has).0

pub returns-clause-second : goal.returns-clause-second
returns-clause-second c = λ d o h has. (h.each _ (node.Both c.args.a c.args.b) c.in_ok-node.ensures.at has).1
