use Rattle.bd_slice.specs.Reasons.{IsReason}
use Rattle.bd_slice.specs.inner.Accounts.{InRun}
use Rattle.bd_slice.specs.inner.Collected.{AreCollected}
use Rattle.bd_slice.specs.declared.reason.Reason.{Reason}
use Rattle.bd_slice.proofs.reason.reasons_of.Given as goal

abbrev pub invariant-loop-place : goal.invariant-loop-place
invariant-loop-place l =
    AreCollected (λ (r : Reason). InRun l.run r.subject (λ d c. IsReason d c r)) l.fn.subjects l.place l.reasons.subjects.keys l.reasons.items.items
