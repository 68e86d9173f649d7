use Rattle.std.proofs.Common.{◌≤◌, ◌∙◌, length, None, subst, arith}
use Rattle.bd_watch.specs.Levels.{Assigned, assigned}
use Rattle.bd_watch.specs.inner.Visits.{Sweeps}
use Rattle.bd_watch.proofs.Sweeps.{next_below, next_false, propagated_more, sweep_longer, sweep_keeps, propagates_all}
use Rattle.bd_watch.proofs.watch.Watch.propagate.Goals as goal

pub sweep-requires-clause-below : goal.sweep-requires-clause-below
sweep-requires-clause-below c = next_below c.loop-lit.self c.in-Some.lit c.loop-lit.invariant.watching c.in-Some.ensures.some

pub sweep-requires-clause-falsified : goal.sweep-requires-clause-falsified
sweep-requires-clause-falsified c = next_false c.loop-lit.self c.in-Some.lit c.in-Some.ensures.some

pub loop-lit-preserved : goal.loop-lit-preserved
loop-lit-preserved c =
    let w = c.loop-lit.self in
    let new = c.sweep.new.self in
    let has = c.loop-lit.invariant in
    let sweeps = subst (Sweeps w new c.in-Some.lit) c.in_default-2.is c.in_ok-id.ensures in
    let d : Assigned = assigned c.in-Some.lit None in
    let more : length w.trail.entries ≤ length new.trail.entries = sweep_longer w new c.in-Some.lit None sweeps in
    record {
      watching = propagated_more w new c.in-Some.lit d c.in-Some.ensures.some sweeps;
      clauses = sweeps.extends.clauses ∙ has.clauses;
      limit = sweeps.extends.limit ∙ has.limit;
      longer = omega (arith, has.longer);
      kept = sweep_keeps w new c.in-Some.lit None (length c.args.self.now.trail.entries) has.longer sweeps ∙ has.kept;
    }

pub returns : goal.returns
returns c =
    let has = c.loop-lit.invariant in
    propagates_all c.args.self.now c.loop-lit.self has.watching has.clauses has.limit has.longer has.kept c.in_default.ensures.none
