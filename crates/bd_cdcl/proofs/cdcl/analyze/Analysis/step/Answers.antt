use Rattle.std.proofs.Common.{◌<◌, ◌≤◌, ◌∙◌, List, length, get_or, ap, sym, arith}
use Rattle.std.proofs.lemmas.Bool.{OnTrue_at, OnFalse_at}
use Rattle.std.proofs.lemmas.Result.{on_ok_weaker}
use Rattle.bd_cnf.specs.Literal.{negate}
use Rattle.bd_watch.specs.Levels.{Assigned}
use Rattle.bd_watch.specs.Trails.{LeveledTrail}
use Rattle.bd_cdcl.specs.inner.Analysis.{AreUnmarked, IsMarkedIn}
use Rattle.bd_cdcl.proofs.Analyses.{passes_on, mark_read, entry_all_assigned, decision_lone, step_keeps, step_resolves}
use Rattle.bd_cdcl.proofs.cdcl.analyze.Analysis.step.Goals as goal

pub returns-then-not-index : goal.returns-then-not-index
returns-then-not-index c conflict is =
    let low : c.args.place < length c.args.self.now.marks.items = omega (arith, c.requires.within, c.requires.watching.room, c.requires.room) in
    passes_on c.args.watch.now c.args.start conflict c.args.place c.args.self.now is (mark_read c.args.self.now.marks.items c.args.place c.index.result.now low c.index.ensures ∙ c.if-not-index.true)

pub returns-in_default : goal.returns-in_default
returns-in_default c =
    let w = c.args.watch.now in
    let entry = c.index-as_slice-place.result in
    let low : c.args.place < length c.args.self.now.marks.items = omega (arith, c.requires.within, c.requires.watching.room, c.requires.room) in
    let on = mark_read c.args.self.now.marks.items c.args.place c.index.result.now low c.index.ensures ∙ c.if-not-index.false in
    let read = c.index-as_slice-place.is ∙ ap (λ (es : List Assigned). get_or es c.args.place entry) (c.as_slice.ensures.entries ∙ ap (λ (t : LeveledTrail). t.entries) c.trail.ensures) in
    on_ok_weaker c.keep.result
    (step_keeps w c.args.place entry c.requires.watching c.requires.within read c.args.start c.args.self.now c.keep.new.self c.negated-negated.result on (c.negated-negated.ensures ∙ ap negate c.literal.ensures)
    (decision_lone w c.args.place entry c.requires.watching c.requires.within read c.args.start c.args.self.now.marks.items (sym c.reason.ensures ∙ c.in_default.is) c.requires.start))
    c.keep.ensures

pub returns-then-not-resolves : goal.returns-then-not-resolves
returns-then-not-resolves c =
    let w = c.args.watch.now in
    let marks = c.args.self.now.marks.items in
    let entry = c.index-as_slice-place.result in
    let low : c.args.place < length marks = omega (arith, c.requires.within, c.requires.watching.room, c.requires.room) in
    let on = mark_read marks c.args.place c.index.result.now low c.index.ensures ∙ c.if-not-index.false in
    let read = c.index-as_slice-place.is ∙ ap (λ (es : List Assigned). get_or es c.args.place entry) (c.as_slice.ensures.entries ∙ ap (λ (t : LeveledTrail). t.entries) c.trail.ensures) in
    let lone : c.args.start ≤ c.args.place → AreUnmarked marks c.args.start c.args.place = OnFalse_at (c.if-not-resolves.true) c.in_ok-resolves.ensures.lone in
    on_ok_weaker c.keep-then-not-resolves.result
    (step_keeps w c.args.place entry c.requires.watching c.requires.within read c.args.start c.args.self.now c.keep-then-not-resolves.new.self c.negated-negated.result on (c.negated-negated.ensures ∙ ap negate c.literal.ensures) lone)
    c.keep-then-not-resolves.ensures

pub resolve-requires-clause-assigned : goal.resolve-requires-clause-assigned
resolve-requires-clause-assigned c =
    let w = c.args.watch.now in
    let entry = c.index-as_slice-place.result in
    let read = c.index-as_slice-place.is ∙ ap (λ (es : List Assigned). get_or es c.args.place entry) (c.as_slice.ensures.entries ∙ ap (λ (t : LeveledTrail). t.entries) c.trail.ensures) in
    entry_all_assigned w c.args.place entry c.requires.watching c.requires.within read c.in-Some.id (sym c.reason.ensures ∙ c.in-Some.is)

pub returns : goal.returns
returns c =
    let w = c.args.watch.now in
    let marks = c.args.self.now.marks.items in
    let entry = c.index-as_slice-place.result in
    let low : c.args.place < length marks = omega (arith, c.requires.within, c.requires.watching.room, c.requires.room) in
    let on = mark_read marks c.args.place c.index.result.now low c.index.ensures ∙ c.if-not-index.false in
    let read = c.index-as_slice-place.is ∙ ap (λ (es : List Assigned). get_or es c.args.place entry) (c.as_slice.ensures.entries ∙ ap (λ (t : LeveledTrail). t.entries) c.trail.ensures) in
    let more : c.args.start ≤ c.args.place → IsMarkedIn marks c.args.start c.args.place = OnTrue_at (c.if-not-resolves.false) c.in_ok-resolves.ensures.more in
    on_ok_weaker c.resolve.result
    (step_resolves w c.args.place entry c.requires.watching c.requires.within read c.args.start c.in-Some.id c.args.self.now c.resolve.new.self on (sym c.reason.ensures ∙ c.in-Some.is) more)
    c.resolve.ensures
