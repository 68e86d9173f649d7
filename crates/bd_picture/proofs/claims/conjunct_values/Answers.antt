use Rattle.bd_sim.proofs.Limits.{conjuncts_within}
use Rattle.bd_picture.proofs.claims.conjunct_values.Goals as goal

pub part_values-requires : goal.part_values-requires
part_values-requires c = conjuncts_within c.args.design.now.inv c.in-And.parts c.in-And.is c.requires
