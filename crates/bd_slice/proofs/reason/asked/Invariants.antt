use Rattle.std.proofs.Common.{take, Contains}
use Rattle.std.specs.List.{All}
use Rattle.bd_slice.proofs.reason.asked.Given as goal

abbrev pub invariant-loop-subject : goal.invariant-loop-subject
invariant-loop-subject l = All (Contains l.set.keys) (take l.subject-index l.subjects)
