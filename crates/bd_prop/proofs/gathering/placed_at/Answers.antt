use Rattle.std.proofs.Common.{◌<◌, All, length, sym, subst}
use Rattle.bd_prop.specs.Gathered.{IsPlaced}
use Rattle.bd_prop.specs.Node.{named}
use Rattle.bd_prop.proofs.Gatherings.{AreLow-Extends}
use Rattle.bd_prop.proofs.gathering.placed_at.Goals as goal

pub placed-requires : goal.placed-requires
placed-requires c = subst (λ l. All (λ k. k < length c.args.prop.now) (named l)) (sym c.entry_of.ensures) (c.requires.low.each c.args.id)

pub returns-clause-low : goal.returns-clause-low
returns-clause-low c = AreLow-Extends c.args.prop.now c.placed.new.prop c.args.entries.now c.placed.ensures.grows c.requires.low
