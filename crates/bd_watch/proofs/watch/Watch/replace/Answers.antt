use Rattle.std.proofs.Common.{◌<◌, length, refl, arith}
use Rattle.bd_cnf.specs.Packed.{literal_index}
use Rattle.bd_watch.proofs.WatchedClauses.{literal_below}
use Rattle.bd_watch.proofs.VisitedClauses.{index_listed, visits_replaced}
use Rattle.bd_watch.proofs.watch.Watch.replace.Goals as goal

pub index_mut-requires : goal.index_mut-requires
index_mut-requires c =
    let w = c.args.self.now in
    let low : literal_index c.args.pair.first < length w.lists.items = index_listed w c.args.pair.first c.requires.watching (literal_below w.clauses w.pairs.items w.lists.items w.trail.limit c.args.clause c.args.pair.first c.requires.watching.watched c.requires.long.within c.requires.pair.two.first) in
    omega (arith, c.index.ensures, w.lists.ok.0)

pub returns : goal.returns
returns c l apart =
    visits_replaced c.args.self.now _ _ c.args.clause c.index.result c.args.pair c.index_mut.result.now c.push.new.self c.watcher-watcher.result c.requires.watching c.requires.long c.requires.pair c.index.ensures c.index_mut.ensures.value c.in_ok-push.ensures.ok c.watcher-watcher.ensures.clause c.watcher-watcher.ensures.blocker (c.watcher-watcher.ensures.rest _ c.requires.pair.two) refl refl l apart
