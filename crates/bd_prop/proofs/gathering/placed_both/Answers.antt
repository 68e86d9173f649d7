use Rattle.std.proofs.Common.{◌<◌, ◌≤◌, length, arith}
use Rattle.bd_prop.specs.Gathered.{entry_at}
use Rattle.bd_prop.proofs.Gatherings.{Extends-trans, IsPlaced-Extends, long-Extends}
use Rattle.bd_prop.proofs.gathering.placed_both.Goals as goal

pub returns-in_err-second-clause-grows : goal.returns-in_err-second-clause-grows
returns-in_err-second-clause-grows c = Extends-trans c.args.prop.now c.placed_at.new.prop c.placed_at-2.new.prop c.placed_at.ensures.grows c.placed_at-2.ensures.grows

pub returns-clause-grows : goal.returns-clause-grows
returns-clause-grows c = Extends-trans c.args.prop.now c.placed_at.new.prop c.placed_at-2.new.prop c.placed_at.ensures.grows c.placed_at-2.ensures.grows

pub returns-clause-first_within : goal.returns-clause-first_within
returns-clause-first_within c =
    let low : c.in_ok-first.first < length c.placed_at.new.prop = c.in_ok-first.ensures.within in
    let long = long-Extends c.placed_at.new.prop c.placed_at-2.new.prop c.placed_at-2.ensures.grows in
    omega arith

pub returns-clause-first : goal.returns-clause-first
returns-clause-first c = IsPlaced-Extends c.placed_at.new.prop c.placed_at-2.new.prop (entry_at c.args.entries.now c.args.a) c.in_ok-first.first c.placed_at-2.ensures.grows c.in_ok-first.ensures.placed
