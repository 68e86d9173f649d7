use Rattle.std.proofs.Common.{◌≢◌, AllPairs, subst}
use Rattle.bd_equality.proofs.PairEq.{once_of}
use Rattle.bd_equality.proofs.pairs.Pairs.edges.Goals as goal

pub returns-in_err-push-clause-once : goal.returns-in_err-push-clause-once
returns-in_err-push-clause-once c = subst (AllPairs (λ e f. e ≢ f)) c.self.view_is (once_of c.self.inside.pairs.keys c.as_slice-pair-items.ensures.unique)

pub returns-clause-once : goal.returns-clause-once
returns-clause-once c = subst (AllPairs (λ e f. e ≢ f)) c.self.view_is (once_of c.self.inside.pairs.keys c.as_slice-pair-items.ensures.unique)
