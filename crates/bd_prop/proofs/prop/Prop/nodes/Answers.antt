use Rattle.std.proofs.Common.{subst}
use Rattle.bd_prop.specs.Graph.{HasOneId}
use Rattle.bd_prop.proofs.Same.{one_place, node_eq, node_eq-refl}
use Rattle.bd_prop.proofs.prop.Prop.nodes.Goals as goal

pub returns-clause-different : goal.returns-clause-different
returns-clause-different c =
    subst HasOneId c.self.view_is (one_place node_eq node_eq-refl c.self.inside.nodes.keys c.as_slice.ensures.unique)
