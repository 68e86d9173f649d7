use Rattle.std.proofs.Common.{◌≡◌, ◌<◌, true, length, sym, subst, arith}
use Rattle.bd_cnf.specs.Literal.{has_variable}
use Rattle.bd_cnf.proofs.Literals.{has_at}
use Rattle.bd_lrat.specs.Database.{numbered}
use Rattle.bd_watch.specs.Levels.{literals}
use Rattle.bd_watch.specs.Trails.{LeveledTrail, IsPlaceOf}
use Rattle.bd_cdcl.proofs.MarksSet.{marks_next}
use Rattle.bd_cdcl.proofs.cdcl.analyze.mark.Goals as goal

pub place-place-requires : goal.place-place-requires
place-place-requires c =
    let l = c.packed-item.result in
    subst (λ (t : LeveledTrail). has_variable (literals t.entries) l.var ≡ true) (sym c.trail-trail.ensures)
    (c.requires.assigned l (has_at c.loop-packed.packed-index c.args.clause.now l l c.loop-packed-test.true c.packed-item.is))

pub loop-packed-preserved : goal.loop-packed-preserved
loop-packed-preserved c =
    let w = c.args.watch.now in
    let l = c.packed-item.result in
    let at = subst (λ (t : LeveledTrail). IsPlaceOf t.entries l.var c.place-place.result) c.trail-trail.ensures c.place-place.ensures in
    let low : c.place-place.result < length c.loop-packed.marks.items = omega (arith, at.within, c.requires.watching.room, c.requires.room, c.loop-packed.invariant.size) in
    marks_next (numbered w.clauses) w.trail.entries c.args.clause.now c.loop-packed.packed-index l c.args.marks.now.items c.loop-packed.marks.items c.place-place.result c.requires.watching.complete c.loop-packed-test.true c.packed-item.is c.loop-packed.invariant at low
