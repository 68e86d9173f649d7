use Rattle.std.proofs.Common.{arith}
use Rattle.bd_slice.proofs.Collecting.{asked_all, asked_more, nothing_yet}
use Rattle.bd_slice.proofs.reason.asked.Goals as goal

pub loop-subject-init : goal.loop-subject-init
loop-subject-init c = nothing_yet _

pub loop-subject-preserved : goal.loop-subject-preserved
loop-subject-preserved c = asked_more _ _ c.args.subjects.now c.loop-subject.subject-index _ (omega arith) c.loop-subject.invariant c.in_ok-insert.ensures.keys

pub returns : goal.returns
returns c = asked_all _ c.args.subjects.now c.loop-subject.subject-index (omega arith) c.loop-subject.invariant
