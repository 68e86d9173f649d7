use Rattle.std.proofs.Common.{None, refl}
use Rattle.bd_watch.specs.Watching.{pair_of}
use Rattle.bd_watch.proofs.ThirdLiterals.{rest_first, rest_known}
use Rattle.bd_watch.proofs.load.watcher.Goals as goal

pub returns-then-lits-eq2-clause-rest : goal.returns-then-lits-eq2-clause-rest
returns-then-lits-eq2-clause-rest c =
    rest_first c.args.lits.now (pair_of c.args.watched c.args.blocker None) _ c.requires.pair c.if-lits-eq2.true refl refl

pub returns-clause-rest : goal.returns-clause-rest
returns-clause-rest c =
    rest_known c.args.lits.now (pair_of c.args.watched c.args.blocker None) _ c.third.result c.requires.pair c.third.ensures refl c.unwrap_or-rest.ensures
