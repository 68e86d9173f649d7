use Rattle.std.proofs.Common.{◌≡◌, ◌∙◌, ◌+◌, true, [], ◌∷◌, ◌++◌, take, ap, sym, subst}
use Rattle.std.proofs.lemmas.List.{take_more}
use Rattle.bd_cnf.specs.Literal.{Literal, negate, has_variable}
use Rattle.bd_cnf.proofs.Literals.{has_at}
use Rattle.bd_cnf.proofs.Closed.{has_variable_of}
use Rattle.bd_lrat.specs.Database.{numbered}
use Rattle.bd_watch.specs.Levels.{literals}
use Rattle.bd_watch.specs.Trails.{LeveledTrail, IsPlaceOf}
use Rattle.bd_cdcl.specs.declared.cdcl.learn.Second.{Second}
use Rattle.bd_cdcl.specs.inner.Analyses.{IsSecond}
use Rattle.bd_cdcl.proofs.MarksSet.{once_on}
use Rattle.bd_cdcl.proofs.LessonLevels.{second_none, second_later, second_earlier}
use Rattle.bd_cdcl.proofs.cdcl.learn.last_falsified.Goals as goal
use Rattle.bd_cdcl.proofs.cdcl.learn.last_falsified.Goals.{then-place-floor, else-place-floor}

pub loop-other-init : goal.loop-other-init
loop-other-init c = second_none c.args.watch.now.trail.entries c.args.first

pub place-place-requires : goal.place-place-requires
place-place-requires c =
    let l = c.other-item.result in
    let bad = c.requires.falsified l (has_at c.loop-other.other-index c.args.rest.now l l c.loop-other-test.true c.other-item.is) in
    subst (λ (t : LeveledTrail). has_variable (literals t.entries) l.var ≡ true) (sym c.trail-trail.ensures) (has_variable_of (literals c.args.watch.now.trail.entries) (negate l) bad)

pub loop-other-preserved : goal.loop-other-preserved
loop-other-preserved c =
    let w = c.args.watch.now in
    let l = c.other-item.result in
    let rest = c.args.rest.now in
    let i = c.loop-other.other-index in
    let s : Second = record { literal = c.loop-other.literal; floor = c.loop-other.floor } in
    let bad = c.requires.falsified l (has_at i rest l l c.loop-other-test.true c.other-item.is) in
    let at = subst (λ (t : LeveledTrail). IsPlaceOf t.entries l.var c.place-place.result) c.trail-trail.ensures c.place-place.ensures in
    let once = once_on (numbered w.clauses) w.trail.entries c.requires.watching.complete in
    let more : take (i + 1) rest ≡ take i rest ++ l ∷ [] = take_more rest i l c.loop-other-test.true ∙ ap (λ (m : Literal). take i rest ++ m ∷ []) (sym c.other-item.is) in
    subst (λ ls. IsSecond w.trail.entries ls (record { literal = c.if-place-floor.literal; floor = c.if-place-floor.floor })) (sym more)
    (elim c.if-place-floor.branch [
      | then-place-floor b ↦ subst (IsSecond w.trail.entries (take i rest ++ l ∷ [])) (λ j. record { literal = sym b.literal-is j; floor = sym b.floor-is j }) (second_later w.trail.entries (take i rest) s l c.place-place.result c.loop-other.invariant at bad once b.if-place-floor.true)
      | else-place-floor b ↦ subst (IsSecond w.trail.entries (take i rest ++ l ∷ [])) (λ j. record { literal = sym b.literal-is j; floor = sym b.floor-is j }) (second_earlier w.trail.entries (take i rest) s l c.place-place.result c.loop-other.invariant at bad once b.if-place-floor.false)
    ])
