use Rattle.std.proofs.Common.{◌∙◌, refl, sym}
use Rattle.bd_watch.specs.Watching.{clause_at}
use Rattle.bd_watch.proofs.VisitedClauses.{left_below, watcher_long, visits_true, visits_blocked, pair_is, other_here}
use Rattle.bd_watch.proofs.watch.Watch.visit.Goals as goal

pub has-requires : goal.has-requires
has-requires c =
    let w = c.args.self.now in
    left_below w c.args.watcher.clause c.args.watcher.blocker c.args.watcher.blocker c.requires.watching (watcher_long w _ c.args.watcher c.requires.watcher) c.requires.watcher.blocker refl

pub returns-then-has : goal.returns-then-has
returns-then-has c = visits_true c.args.self.now c.args.watcher.clause c.args.watcher.blocker c.args.lit c.requires.watching c.requires.watcher.blocker (sym c.has.ensures ∙ c.if-has.true)

pub has-requires-2 : goal.has-requires-2
has-requires-2 c =
    let w = c.args.self.now in
    left_below w c.args.watcher.clause c.args.watcher.rest c.args.watcher.rest c.requires.watching (watcher_long w _ c.args.watcher c.requires.watcher) c.requires.watcher.rest.here refl

pub returns-then-has-2 : goal.returns-then-has-2
returns-then-has-2 c = visits_true c.args.self.now c.args.watcher.clause c.args.watcher.rest c.args.lit c.requires.watching c.requires.watcher.rest.here (sym c.has-2.ensures ∙ c.if-has-2.true)

pub has-requires-3 : goal.has-requires-3
has-requires-3 c =
    let w = c.args.self.now in
    let long = watcher_long w _ c.args.watcher c.requires.watcher in
    let pair = pair_is w c.args.watcher.clause c.index.result.now c.requires.watching long c.index.ensures in
    left_below w c.args.watcher.clause c.in-Some-other.other c.in-Some-other.other c.requires.watching long (other_here (clause_at w.clauses c.args.watcher.clause) c.index.result.now c.args.lit c.in-Some-other.other pair c.in-Some-other.ensures.some).0 refl

pub returns-then-has-3 : goal.returns-then-has-3
returns-then-has-3 c =
    let w = c.args.self.now in
    let pair = pair_is w c.args.watcher.clause c.index.result.now c.requires.watching (watcher_long w _ c.args.watcher c.requires.watcher) c.index.ensures in
    visits_blocked w c.args.watcher.clause c.in-Some-other.other c.args.lit c.requires.watching (other_here (clause_at w.clauses c.args.watcher.clause) c.index.result.now c.args.lit c.in-Some-other.other pair c.in-Some-other.ensures.some).0 (sym c.has-3.ensures ∙ c.if-has-3.true)
