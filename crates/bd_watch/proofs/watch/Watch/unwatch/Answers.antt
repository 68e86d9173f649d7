use Rattle.std.proofs.Common.{◌<◌, length, refl, arith}
use Rattle.bd_cnf.specs.Packed.{literal_index}
use Rattle.bd_watch.proofs.VisitedClauses.{index_listed, unwatched}
use Rattle.bd_watch.proofs.watch.Watch.unwatch.Goals as goal

pub index_mut-requires : goal.index_mut-requires
index_mut-requires c =
    let w = c.args.self.now in
    let low : literal_index c.args.lit < length w.lists.items = index_listed w c.args.lit c.requires.watching c.requires.below in
    omega (arith, c.index.ensures, w.lists.ok.0)

pub returns : goal.returns
returns c =
    unwatched c.args.self.now _ c.args.lit c.index.result c.args.place c.index_mut.result.now c.swap_remove.new.self c.requires.watching c.requires.below c.requires.within c.requires.stale c.index.ensures c.index_mut.ensures.value c.swap_remove.ensures refl
