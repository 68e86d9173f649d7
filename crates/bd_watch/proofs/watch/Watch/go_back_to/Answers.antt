use Rattle.std.proofs.Common.{◌<◌, ◌∙◌, length, refl, sym, ap, subst, arith}
use Rattle.std.proofs.lemmas.List.{length-take-le}
use Rattle.bd_watch.specs.Trails.{LeveledTrail}
use Rattle.bd_watch.specs.Watching.{AreWatching}
use Rattle.bd_watch.proofs.WatchedClauses.{taken_back}
use Rattle.bd_watch.proofs.watch.Watch.go_back_to.Goals as goal

pub returns : goal.returns
returns c =
    let w = c.args.self.now in
    let inside : c.args.place < length w.trail.entries = c.requires.decision.within in
    record {
      watching = subst (λ t. AreWatching w.clauses w.pairs.items w.lists.items t c.args.place) (sym c.truncate.ensures) (taken_back w.clauses w.pairs.items w.lists.items w.trail w.head c.args.place c.requires.watching c.requires.decision);
      propagated = sym (ap (λ (t : LeveledTrail). length t.entries) c.truncate.ensures ∙ length-take-le c.args.place w.trail.entries (omega arith));
      clauses = refl;
      trail = c.truncate.ensures;
    }
