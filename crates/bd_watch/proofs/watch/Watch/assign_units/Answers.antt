use Rattle.std.proofs.Common.{◌≤◌, length, ap, arith}
use Rattle.bd_watch.proofs.LoadedClauses.{started}
use Rattle.bd_watch.proofs.Units.{units_end}
use Rattle.bd_watch.proofs.watch.Watch.assign_units.Goals as goal

pub returns : goal.returns
returns c =
    let w = c.loop-place.self in
    let has = c.loop-place.invariant in
    let past : length w.clauses ≤ c.loop-place.place = omega (arith, ap length has.clauses, c.len-place-end.ensures.value, c.loop-place-test.false) in
    record {
      clauses = has.clauses;
      limit = has.limit;
      complete = has.starting.complete;
      level_zero = has.starting.level_zero;
      start = started w (units_end w c.loop-place.place has.starting past);
    }
