use Rattle.std.proofs.Common.{◌<◌, length, refl, arith}
use Rattle.bd_cnf.specs.Packed.{literal_index}
use Rattle.bd_watch.proofs.VisitedClauses.{index_listed, renewed}
use Rattle.bd_watch.proofs.watch.Watch.renew.Goals as goal

pub index_mut-requires : goal.index_mut-requires
index_mut-requires c =
    let w = c.args.self.now in
    let low : literal_index c.args.lit < length w.lists.items = index_listed w c.args.lit c.requires.watching c.requires.below in
    omega (arith, c.index.ensures, w.lists.ok.0)

pub returns : goal.returns
returns c =
    renewed c.args.self.now _ c.args.lit c.args.blocker c.index.result c.args.place c.index_mut.result.now c.renew.new.self c.requires.watching c.requires.below c.requires.may c.index.ensures c.index_mut.ensures.value c.renew.ensures refl
