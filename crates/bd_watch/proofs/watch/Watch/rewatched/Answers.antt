use Rattle.std.proofs.Common.{sym, ap, subst}
use Rattle.bd_watch.specs.declared.watcher.WatchedPair.{WatchedPair}
use Rattle.bd_cnf.specs.Literal.{Literal}
use Rattle.bd_watch.specs.Watching.{clause_at}
use Rattle.bd_watch.specs.inner.Watchers.{AreTwo}
use Rattle.bd_watch.proofs.VisitedClauses.{left_below, pair_is}
use Rattle.bd_watch.proofs.ThirdLiterals.{third_of}
use Rattle.bd_watch.proofs.watch.Watch.rewatched.Goals as goal

pub has-requires : goal.has-requires
has-requires c =
    let w = c.args.self.now in
    let pair = pair_is w c.args.place c.index.result.now c.requires.watching c.requires.long c.index.ensures in
    let two = subst (λ (p : WatchedPair). AreTwo p c.args.lit c.args.other) (sym c.index.ensures) (c.requires.two c.index.result.now) in
    let third = third_of (clause_at w.clauses c.args.place) c.index.result.now c.args.lit c.args.other c.in-Some.third pair two c.in-Some.is in
    left_below w c.args.place c.in-Some.third c.negated.result c.requires.watching c.requires.long third.here (ap (λ (l : Literal). l.var) c.negated.ensures)
