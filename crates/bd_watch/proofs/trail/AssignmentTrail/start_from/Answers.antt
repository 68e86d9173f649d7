use Rattle.std.proofs.Common.{◌≡◌, ◌-◌, ◌<◌, ◌≤◌, ℕ, length, get_or, sym, subst, arith}
use Rattle.std.proofs.lemmas.List.{get_or_read}
use Rattle.bd_watch.specs.Trails.{LeveledTrail, IsStartFrom, IsDecisionAt}
use Rattle.bd_watch.proofs.Fronts.{start_from_is, start_from_none}
use Rattle.bd_watch.proofs.trail.AssignmentTrail.start_from.Goals as goal
use Rattle.bd_watch.proofs.trail.AssignmentTrail.start_from.Goals.{then-loop-count-test+else-index-place, else-loop-count-test}

pub returns-then-count-len-clause-none : goal.returns-then-count-len-clause-none
returns-then-count-len-clause-none c =
    let inside = c.self.inside in
    let starts = inside.starts.items in
    let count = c.loop-count.count in
    let before : 0 < count → get_or starts (count - 1) 0 < c.args.place = elim c.loop-count-test.branch [
      | then-loop-count-test+else-index-place w ↦ λ h.
          let read : w.index.result.now ≡ get_or starts (count - 1) 0 = get_or_read starts (count - 1) w.index.result.now (omega (arith, c.loop-count.invariant.most)) w.index.ensures 0 in
          omega (arith, w.if-index-place.false)
      | else-loop-count-test w ↦ λ h. absurd (omega (arith, w.loop-count-test.false))
    ] in
    let past : length starts ≤ count = omega (arith, c.if-count-len.true, c.len.ensures, inside.starts.ok.0) in
    subst (λ (t : LeveledTrail). (start : ℕ) → IsDecisionAt t.entries start → start < c.args.place) c.self.view_is
    (start_from_none starts inside.entries.items c.args.place count c.self.invariant.started past c.loop-count.invariant.most before)

pub returns-clause-some : goal.returns-clause-some
returns-clause-some c =
    let inside = c.self.inside in
    let starts = inside.starts.items in
    let count = c.loop-count.count in
    let before : 0 < count → get_or starts (count - 1) 0 < c.args.place = elim c.loop-count-test.branch [
      | then-loop-count-test+else-index-place w ↦ λ h.
          let read : w.index.result.now ≡ get_or starts (count - 1) 0 = get_or_read starts (count - 1) w.index.result.now (omega (arith, c.loop-count.invariant.most)) w.index.ensures 0 in
          omega (arith, w.if-index-place.false)
      | else-loop-count-test w ↦ λ h. absurd (omega (arith, w.loop-count-test.false))
    ] in
    let low : count < length starts = omega (arith, c.if-count-len.false, c.len.ensures, inside.starts.ok.0, c.loop-count.invariant.most) in
    let read : c.index-2.result.now ≡ get_or starts count 0 = get_or_read starts count c.index-2.result.now low c.index-2.ensures 0 in
    subst (λ (t : LeveledTrail). IsStartFrom t.entries c.args.place c.index-2.result.now) c.self.view_is
    (start_from_is starts inside.entries.items c.args.place count c.index-2.result.now c.self.invariant.started c.loop-count.invariant.after before low (sym read))
