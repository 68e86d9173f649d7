use Rattle.std.proofs.Common.{sym, subst}
use Rattle.std.specs.Bool.{OnTrue}
use Rattle.std.specs.Prelude.{IsSomeAnd}
use Rattle.bd_cdcl.specs.inner.Deletions.{IsSatisfied}
use Rattle.bd_cdcl.proofs.DeletedClauses.{stands_below}
use Rattle.bd_cdcl.proofs.cdcl.reduce.Deletion.may_delete.Goals as goal

pub is_satisfied-requires-clause-below : goal.is_satisfied-requires-clause-below
is_satisfied-requires-clause-below c =
    let w = c.args.watch.now in
    stands_below w.trail.limit w.clauses c.args.id c.clause.result.now c.requires.watching.watched.below c.clause.ensures

pub returns-clause-may : goal.returns-clause-may
returns-clause-may c =
    let w = c.args.watch.now in
    subst (λ o. OnTrue c.is_satisfied.result (IsSomeAnd o (IsSatisfied w.trail.entries c.args.id))) (sym c.clause.ensures) c.is_satisfied.ensures
