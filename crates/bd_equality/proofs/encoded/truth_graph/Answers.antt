use Rattle.std.proofs.Common.{option_copied}
use Rattle.bd_equality.specs.declared.wanted.Wanted.TheVariants.{Truth}
use Rattle.bd_equality.specs.Made.{Term}
use Rattle.bd_equality.proofs.Stepping.{Made-of, part_means}
use Rattle.bd_equality.proofs.encoded.truth_graph.Goals as goal

pub returns-clause-made : goal.returns-clause-made
returns-clause-made c =
    let nodes = c.args.flat.now.graph in
    let syms = c.args.flat.now.syms in
    let root = c.args.flat.now.root in
    let marked = option_copied c.args.marked in
    let e = c.settle.new.self in
    Made-of nodes syms marked e.prop e.settled c.node-root.result (Term root) (part_means nodes syms marked e.prop e.settled c.in_ok-settle.ensures.encoding (Truth root) c.node-root.result c.node-root.ensures)
