use Rattle.bd_slice.specs.declared.graph.SupportNode.TheVariants as node
use Rattle.bd_slice.proofs.graph.SupportGraph.place.Goals as goal

pub returns-clause-agrees : goal.returns-clause-agrees
returns-clause-agrees c = λ d o h has. h.each _ (node.Place c.args.place) c.in_ok-node.ensures.at has
