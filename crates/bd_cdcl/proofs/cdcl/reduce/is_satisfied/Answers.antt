use Rattle.std.proofs.Common.{◌≡◌, ◌≢◌, ◌∙◌, Some, true, List, get_or, ap, sym, subst}
use Rattle.bd_cnf.specs.Literal.{has_literal}
use Rattle.bd_cnf.proofs.Closed.{has_variable_of}
use Rattle.bd_cnf.proofs.Literals.{has_at}
use Rattle.bd_lrat.specs.Database.{numbered}
use Rattle.bd_watch.specs.Levels.{Assigned, literals}
use Rattle.bd_watch.specs.Trails.{LeveledTrail, IsPlaceOf}
use Rattle.bd_cdcl.proofs.DeletedClauses.{satisfied_by, other_reason}
use Rattle.bd_cdcl.proofs.cdcl.reduce.is_satisfied.Goals as goal

pub place-place-requires : goal.place-place-requires
place-place-requires c = has_variable_of (literals c.trail-trail.result.now.entries) c.packed-item.result (sym c.has.ensures ∙ c.if-has.true)

pub returns-then-ne : goal.returns-then-ne
returns-then-ne c =
    let w = c.args.watch.now in
    let l = c.packed-item.result in
    let entry = c.index-as_slice-place.result in
    let entries : c.as_slice.result.now ≡ w.trail.entries = c.as_slice.ensures.entries ∙ ap (λ (t : LeveledTrail). t.entries) c.trail-trail.ensures in
    let on : has_literal (literals w.trail.entries) l ≡ true = subst (λ (t : LeveledTrail). has_literal (literals t.entries) l ≡ true) c.trail-trail.ensures (sym c.has.ensures ∙ c.if-has.true) in
    let at : IsPlaceOf w.trail.entries l.var c.place-place.result = subst (λ (t : LeveledTrail). IsPlaceOf t.entries l.var c.place-place.result) c.trail-trail.ensures c.place-place.ensures in
    let besides : entry.reason ≢ Some c.args.id = λ same. other_reason c.reason.result c.args.id (sym c.ne.ensures ∙ c.if-ne.true) (c.reason.ensures ∙ same) in
    satisfied_by (numbered w.clauses) w.trail.entries c.requires.watching.complete c.args.id c.args.zero c.place-place.result entry l c.args.clause.now c.requires.zero
    (has_at c.loop-packed.packed-index c.args.clause.now l l c.loop-packed-test.true c.packed-item.is)
    on at
    (c.index-as_slice-place.is ∙ ap (λ (es : List Assigned). get_or es c.place-place.result entry) entries)
    c.if-place-zero.true besides
