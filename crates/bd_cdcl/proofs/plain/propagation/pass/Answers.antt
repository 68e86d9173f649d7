use Rattle.std.proofs.Common.{◌≡◌, ◌<◌, ◌∙◌, false, sym, ap, subst, take, Some, inr, ◌+◌}
use Rattle.bd_cnf.specs.Literal.{Literal, has_variable}
use Rattle.bd_lrat.specs.Database.{numbered}
use Rattle.bd_watch.specs.Levels.{assigned, literals, IsComplete}
use Rattle.bd_watch.specs.Trails.{LeveledTrail, extended}
use Rattle.bd_cdcl.specs.inner.Passes.{IsPassing}
use Rattle.bd_cdcl.proofs.Passes.{unit_below, unit_free, unit_placed, unit_true_closed, passing_longer, passing_closed, passed_closed, passed_conflict}
use Rattle.bd_cdcl.proofs.plain.propagation.pass.Goals as goal
use Rattle.bd_cdcl.proofs.plain.propagation.pass.Goals.{in-Unit+then-not-is_true, in-Unit+else-not-is_true, in-Unresolved}

pub is_true-requires : goal.is_true-requires
is_true-requires c =
    unit_below c.args.trail.now.limit c.loop-place.trail.limit c.args.clauses.now c.loop-place.place c.index-clauses-place.result c.lits.result.now (literals c.loop-place.trail.entries) c.in-Unit.lit c.requires.below c.loop-place.invariant.limit c.loop-place-test.true c.index-clauses-place.is c.lits.ensures.value c.in-Unit.ensures

pub pack-packed-requires : goal.pack-packed-requires
pack-packed-requires c =
    unit_below c.args.trail.now.limit c.loop-place.trail.limit c.args.clauses.now c.loop-place.place c.index-clauses-place.result c.lits.result.now (literals c.loop-place.trail.entries) c.in-Unit.lit c.requires.below c.loop-place.invariant.limit c.loop-place-test.true c.index-clauses-place.is c.lits.ensures.value c.in-Unit.ensures

pub imply-requires-clause-within : goal.imply-requires-clause-within
imply-requires-clause-within c =
    subst (λ (l : Literal). l.var < c.loop-place.trail.limit) (sym c.pack-packed.ensures)
    (unit_below c.args.trail.now.limit c.loop-place.trail.limit c.args.clauses.now c.loop-place.place c.index-clauses-place.result c.lits.result.now (literals c.loop-place.trail.entries) c.in-Unit.lit c.requires.below c.loop-place.invariant.limit c.loop-place-test.true c.index-clauses-place.is c.lits.ensures.value c.in-Unit.ensures)

pub imply-requires-clause-unassigned : goal.imply-requires-clause-unassigned
imply-requires-clause-unassigned c =
    subst (λ (l : Literal). has_variable (literals c.loop-place.trail.entries) l.var ≡ false) (sym c.pack-packed.ensures)
    (unit_free (literals c.loop-place.trail.entries) c.lits.result.now c.in-Unit.lit c.in-Unit.ensures c.if-not-is_true.ensures)

pub loop-place-preserved : goal.loop-place-preserved
loop-place-preserved c =
    let clauses = c.args.clauses.now in
    let place = c.loop-place.place in
    let trail = c.loop-place.trail in
    let lits = c.lits.result.now in
    let clause = c.index-clauses-place.result in
    elim c.match-status.branch [
      | in-Unit+then-not-is_true w ↦
          let free = unit_free (literals trail.entries) lits w.in-Unit.lit w.in-Unit.ensures w.if-not-is_true.ensures in
          record {
            limit = ap (λ (t : LeveledTrail). t.limit) w.trail-is ∙ ap (λ (t : LeveledTrail). t.limit) (w.imply.ensures.implied ∙ ap (λ (l : Literal). extended trail (assigned l (Some (place + 1)))) w.pack-packed.ensures) ∙ c.loop-place.invariant.limit;
            complete = subst (λ (t : LeveledTrail). IsComplete (numbered clauses) t.entries) (sym (w.trail-is ∙ (w.imply.ensures.implied ∙ ap (λ (l : Literal). extended trail (assigned l (Some (place + 1)))) w.pack-packed.ensures))) (unit_placed clauses place clause lits trail.entries w.in-Unit.lit c.loop-place.invariant.complete c.loop-place-test.true c.index-clauses-place.is c.lits.ensures.value w.in-Unit.ensures free);
            passing = subst (λ t. IsPassing (take (place + 1) clauses) c.args.trail.now t c.match-status.extended) (sym w.trail-is) (passing_longer (take place clauses) (take (place + 1) clauses) c.args.trail.now trail w.imply.new.self c.loop-place.extended c.match-status.extended (assigned w.in-Unit.lit (Some (place + 1))) c.loop-place.invariant.passing (w.imply.ensures.implied ∙ ap (λ (l : Literal). extended trail (assigned l (Some (place + 1)))) w.pack-packed.ensures) w.imply.ensures.room w.extended-is);
          }
      | in-Unit+else-not-is_true w ↦ record {
        limit = ap (λ (t : LeveledTrail). t.limit) w.trail-is ∙ c.loop-place.invariant.limit;
        complete = subst (λ (t : LeveledTrail). IsComplete (numbered clauses) t.entries) (sym w.trail-is) c.loop-place.invariant.complete;
        passing = passing_closed clauses place clause lits c.args.trail.now trail c.match-status.trail c.loop-place.extended c.match-status.extended c.loop-place-test.true c.index-clauses-place.is c.lits.ensures.value (unit_true_closed (literals trail.entries) lits w.in-Unit.lit w.in-Unit.ensures w.if-not-is_true.ensures) c.loop-place.invariant.passing w.trail-is w.extended-is;
      }
      | in-Unresolved w ↦ record {
        limit = ap (λ (t : LeveledTrail). t.limit) w.trail-is ∙ c.loop-place.invariant.limit;
        complete = subst (λ (t : LeveledTrail). IsComplete (numbered clauses) t.entries) (sym w.trail-is) c.loop-place.invariant.complete;
        passing = passing_closed clauses place clause lits c.args.trail.now trail c.match-status.trail c.loop-place.extended c.match-status.extended c.loop-place-test.true c.index-clauses-place.is c.lits.ensures.value (inr w.in-Unresolved.ensures) c.loop-place.invariant.passing w.trail-is w.extended-is;
      }
    ]

pub returns-else-extended-clause-passed : goal.returns-else-extended-clause-passed
returns-else-extended-clause-passed c =
    passed_closed c.args.clauses.now c.loop-place.place c.args.trail.now c.loop-place.trail c.loop-place.extended c.loop-place-test.false c.loop-place.invariant.passing c.if-extended.false

pub returns-in-Falsified-clause-passed : goal.returns-in-Falsified-clause-passed
returns-in-Falsified-clause-passed c =
    passed_conflict c.args.clauses.now c.loop-place.place c.index-clauses-place.result c.lits.result.now (take c.loop-place.place c.args.clauses.now) c.args.trail.now c.loop-place.trail c.loop-place.extended c.loop-place-test.true c.index-clauses-place.is c.lits.ensures.value c.in-Falsified.ensures c.loop-place.invariant.passing
