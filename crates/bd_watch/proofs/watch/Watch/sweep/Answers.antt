use Rattle.std.proofs.Common.{◌<◌, ◌+◌, ap, sym, subst}
use Rattle.bd_watch.specs.inner.Visits.{Visits}
use Rattle.bd_watch.proofs.VisitedClauses.{watcher_read}
use Rattle.bd_watch.proofs.Sweeps.{extends_more, extends_renewed, extends_unwatched, falsified_still, sweep_true, sweep_renewed, may_block, sweep_moved, sweep_conflicts}
use Rattle.bd_watch.proofs.watch.Watch.sweep.Goals as goal

pub visit-requires-clause-watcher : goal.visit-requires-clause-watcher
visit-requires-clause-watcher c =
    let at = c.in-Some.ensures.some in
    watcher_read c.loop-watcher.self c.args.lit c.loop-watcher.place c.in-Some.watcher c.loop-watcher.invariant.watching at.within at.is

pub loop-watcher-preserved-in-Kept : goal.loop-watcher-preserved-in-Kept
loop-watcher-preserved-in-Kept c =
    let w = c.loop-watcher.self in
    let new = c.visit.new.self in
    let has = c.loop-watcher.invariant in
    let visits = subst (Visits w new c.args.lit c.in-Some.watcher.clause) c.in-Kept.is c.in_ok-visited.ensures in
    record {
      watching = visits.watching;
      extends = extends_more c.args.self.now w new has.extends visits.extends;
      below = subst (λ n. c.args.lit.var < n) (sym visits.extends.limit) has.below;
      falsified = falsified_still w new c.args.lit visits.extends has.falsified;
      pending = sweep_true w new c.args.lit c.loop-watcher.place c.in-Some.watcher _ has.pending c.in-Some.ensures.some visits visits.outcome;
    }

pub renew-requires-clause-may : goal.renew-requires-clause-may
renew-requires-clause-may c =
    let w = c.loop-watcher.self in
    let new = c.visit.new.self in
    let visits = subst (Visits w new c.args.lit c.in-Some.watcher.clause) c.in-Blocked.is c.in_ok-visited.ensures in
    may_block w new c.args.lit c.in-Blocked.blocker c.loop-watcher.place c.in-Some.watcher c.in-Some.ensures.some visits

pub loop-watcher-preserved-in-Blocked : goal.loop-watcher-preserved-in-Blocked
loop-watcher-preserved-in-Blocked c =
    let w = c.loop-watcher.self in
    let new = c.visit.new.self in
    let newer = c.renew.new.self in
    let has = c.loop-watcher.invariant in
    let visits = subst (Visits w new c.args.lit c.in-Some.watcher.clause) c.in-Blocked.is c.in_ok-visited.ensures in
    let both = extends_renewed c.args.self.now new newer c.args.lit c.in-Blocked.blocker c.loop-watcher.place (extends_more c.args.self.now w new has.extends visits.extends) c.renew.ensures in
    record {
      watching = c.renew.ensures.watching;
      extends = both;
      below = subst (λ n. c.args.lit.var < n) (sym both.limit) c.requires.below;
      falsified = falsified_still c.args.self.now newer c.args.lit both c.requires.falsified;
      pending = sweep_renewed w new newer c.args.lit c.in-Blocked.blocker c.loop-watcher.place c.in-Some.watcher has.pending c.in-Some.ensures.some visits c.renew.ensures;
    }

pub loop-watcher-preserved : goal.loop-watcher-preserved
loop-watcher-preserved c =
    let w = c.loop-watcher.self in
    let new = c.visit.new.self in
    let newer = c.unwatch.new.self in
    let has = c.loop-watcher.invariant in
    let visits = subst (Visits w new c.args.lit c.in-Some.watcher.clause) c.in-Moved.is c.in_ok-visited.ensures in
    let both = extends_unwatched c.args.self.now new newer c.args.lit c.loop-watcher.place (extends_more c.args.self.now w new has.extends visits.extends) c.unwatch.ensures in
    record {
      watching = c.unwatch.ensures.watching;
      extends = both;
      below = subst (λ n. c.args.lit.var < n) (sym both.limit) c.requires.below;
      falsified = falsified_still c.args.self.now newer c.args.lit both c.requires.falsified;
      pending = sweep_moved w new newer c.args.lit c.loop-watcher.place c.in-Some.watcher has.pending c.in-Some.ensures.some visits c.unwatch.ensures;
    }

pub returns-in-Conflict : goal.returns-in-Conflict
returns-in-Conflict c =
    let w = c.loop-watcher.self in
    let new = c.visit.new.self in
    let at = c.in-Some.ensures.some in
    let visits = subst (Visits w new c.args.lit c.in-Some.watcher.clause) c.in-Conflict.is c.in_ok-visited.ensures in
    sweep_conflicts c.args.self.now w new c.args.lit c.in-Some.watcher.clause _ c.loop-watcher.invariant.extends visits (watcher_read w c.args.lit c.loop-watcher.place c.in-Some.watcher c.loop-watcher.invariant.watching at.within at.is).within (ap (λ n. n + 1) c.from-id.ensures)
