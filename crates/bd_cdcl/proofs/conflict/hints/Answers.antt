use Rattle.std.proofs.Common.{◌∙◌}
use Rattle.bd_watch.proofs.Entries.{reasons_pushed, reasons_passed}
use Rattle.bd_cdcl.proofs.conflict.hints.Goals as goal
use Rattle.bd_cdcl.proofs.conflict.hints.Goals.{in-Some+in_ok-push, in_default}

pub loop-entry-preserved : goal.loop-entry-preserved
loop-entry-preserved c =
    let xs = c.as_slice-entry-items.result.now in
    let i = c.loop-entry.entry-index in
    let a = c.entry-item.result in
    elim c.match-reason.branch [
      | in-Some+in_ok-push w ↦ w.hints-is ∙ reasons_pushed xs i a c.loop-entry.hints w.push.new.self c.reason.result w.in-Some.id c.loop-entry-test.true c.entry-item.is c.reason.ensures w.in-Some.is c.loop-entry.invariant w.in_ok-push.ensures.ok
      | in_default w ↦ w.hints-is ∙ reasons_passed xs i a c.loop-entry.hints c.reason.result c.loop-entry-test.true c.entry-item.is c.reason.ensures w.in_default.is c.loop-entry.invariant
    ]
