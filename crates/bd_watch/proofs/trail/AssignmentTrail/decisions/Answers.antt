use Rattle.std.proofs.Common.{subst, Vec, Global, ap, ◌∙◌}
use Rattle.bd_cnf.specs.Literal.{Literal}
use Rattle.bd_cnf.specs.Standing.{IsBelow}
use Rattle.bd_watch.specs.Levels.{Assigned, literals}
use Rattle.bd_watch.specs.Trails.{LeveledTrail}
use Rattle.bd_watch.proofs.Entries.{decisions_pushed, decisions_passed, decisions_below}
use Rattle.bd_watch.proofs.trail.AssignmentTrail.decisions.Goals as goal
use Rattle.bd_watch.proofs.trail.AssignmentTrail.decisions.Goals.{then-is_none+in_ok-push, else-is_none}

pub loop-entry-preserved : goal.loop-entry-preserved
loop-entry-preserved c =
    let xs = c.deref-entry-items.result.now in
    let i = c.loop-entry.entry-index in
    let a = c.entry-item.result in
    let reason = c.reason.ensures ∙ ap (λ (e : Assigned). e.reason) c.entry.view_is in
    elim c.if-is_none.branch [
      | then-is_none+in_ok-push w ↦
          ap (λ (v : Vec Literal Global). v.items) w.found-is
          ∙ decisions_pushed xs i a c.loop-entry.found.items w.push.new.self.items w.lit.result c.reason.result c.loop-entry-test.true c.entry-item.is (w.lit.ensures ∙ ap (λ (e : Assigned). e.literal) c.entry.view_is) reason w.if-is_none.ensures c.loop-entry.invariant w.in_ok-push.ensures.items
      | else-is_none w ↦
          ap (λ (v : Vec Literal Global). v.items) w.found-is
          ∙ decisions_passed xs i a c.loop-entry.found.items c.reason.result c.loop-entry-test.true c.entry-item.is reason w.if-is_none.ensures c.loop-entry.invariant
    ]

pub returns-clause-below : goal.returns-clause-below
returns-clause-below c = decisions_below c.args.self.now.limit c.args.self.now.entries (subst (λ (t : LeveledTrail). IsBelow t.limit (literals t.entries)) c.self.view_is c.self.invariant.within)
