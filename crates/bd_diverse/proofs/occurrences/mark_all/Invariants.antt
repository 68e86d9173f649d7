use Rattle.std.proofs.Common.{◌≡◌, take}
use Rattle.bd_diverse.specs.inner.Walked.{freely, with_flows}
use Rattle.bd_diverse.proofs.occurrences.mark_all.Given as goal

abbrev pub invariant-loop-id : goal.invariant-loop-id
invariant-loop-id l = l.marks ≡ with_flows l.initial.marks (freely (take l.id-index l.ids))
