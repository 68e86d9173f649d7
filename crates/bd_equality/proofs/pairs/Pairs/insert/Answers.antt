use Rattle.std.proofs.Common.{◌≡◌, ◌⊎◌, ◌↔◌, Contains, map, subst}
use Rattle.bd_equality.specs.inner.Sets.{edge_of}
use Rattle.bd_equality.specs.inner.Means.{edge}
use Rattle.bd_terms.proofs.InsertedKeys.{inserted}
use Rattle.bd_equality.proofs.PairEq.{edges_with, pair, pair_eq, pair_same}
use Rattle.bd_equality.proofs.pairs.Pairs.insert.Goals as goal

pub returns : goal.returns
returns c e =
    subst (λ l. Contains (map edge_of c.insert.new.self.keys) e ↔ (Contains l e ⊎ (edge c.args.from c.args.to ≡ e))) c.self.view_is
    (edges_with c.self.inside.pairs.keys c.insert.new.self.keys (pair c.args.from c.args.to) (inserted pair_eq pair_same c.self.inside.pairs.keys c.insert.new.self.keys (pair c.args.from c.args.to) c.in_ok-insert.ensures.keys) e)
