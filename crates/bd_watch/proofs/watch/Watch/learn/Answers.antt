use Rattle.std.proofs.Common.{◌<◌, ◌+◌, ap, sym, subst}
use Rattle.bd_cnf.specs.Literal.{Literal}
use Rattle.bd_watch.specs.Trails.{LeveledTrail}
use Rattle.bd_watch.proofs.Parts.{all_has}
use Rattle.bd_watch.proofs.LoadedClauses.{learns}
use Rattle.bd_watch.proofs.watch.Watch.learn.Goals as goal

pub imply-requires-clause-within : goal.imply-requires-clause-within
imply-requires-clause-within c =
    subst (λ (t : LeveledTrail). c.args.first.var < t.limit) (sym c.in_ok-add.ensures.trail)
    (all_has (λ (l : Literal). l.var < c.args.self.now.trail.limit) c.args.clause.now c.args.first c.requires.learned.below c.requires.learned.asserting.here)

pub returns : goal.returns
returns c = learns c.args.self.now c.add.new.self c.imply.new.self _ c.args.clause.now c.args.first c.args.second c.requires.watching c.requires.learned c.in_ok-add.ensures (ap (λ n. n + 1) c.len.ensures.value) c.imply.ensures.implied c.imply.ensures.room
