use Rattle.std.proofs.Common.{◌≤◌, length, refl, sym, subst}
use Rattle.bd_watch.specs.Trails.{LeveledTrail}
use Rattle.bd_watch.specs.Watching.{AreWatching}
use Rattle.bd_watch.proofs.WatchedClauses.{decided}
use Rattle.bd_watch.proofs.watch.Watch.decide.Goals as goal

pub returns : goal.returns
returns c =
    let w = c.args.self.now in
    let room = subst (λ (t : LeveledTrail). length t.entries ≤ t.limit) c.decide.ensures.decided c.decide.ensures.room in
    record {
      watching = subst (λ t. AreWatching w.clauses w.pairs.items w.lists.items t w.head) (sym c.decide.ensures.decided) (decided w.clauses w.pairs.items w.lists.items w.trail w.head c.args.lit c.requires.watching c.requires.propagated c.requires.free c.requires.within room);
      clauses = refl;
      trail = c.decide.ensures.decided;
    }
