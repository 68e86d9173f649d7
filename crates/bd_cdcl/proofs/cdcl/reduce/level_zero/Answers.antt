use Rattle.std.proofs.Common.{ℕ, ◌<◌, subst, arith}
use Rattle.bd_watch.specs.Trails.{LeveledTrail, IsStartFrom, IsDecisionAt}
use Rattle.bd_cdcl.proofs.cdcl.reduce.level_zero.Goals as goal

pub returns-in-Some : goal.returns-in-Some
returns-in-Some c place at =
    let start = subst (λ (t : LeveledTrail). IsStartFrom t.entries 0 c.in-Some.start) c.trail-trail.ensures c.in-Some.ensures.some in
    start.first place at (omega arith)

pub returns-in-None : goal.returns-in-None
returns-in-None c place at =
    let none = subst (λ (t : LeveledTrail). (start : ℕ) → IsDecisionAt t.entries start → start < 0) c.trail-trail.ensures c.in-None.ensures.none in
    let bad : place < 0 = none place at in
    absurd (omega arith)
