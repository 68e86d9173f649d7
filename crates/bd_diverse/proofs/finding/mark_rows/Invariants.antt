use Rattle.std.proofs.Common.{take}
use Rattle.bd_diverse.specs.Marked.{HasVariable}
use Rattle.bd_diverse.proofs.Marking.{Marks}
use Rattle.bd_diverse.proofs.finding.mark_rows.Given as goal

abbrev pub invariant-loop-row : goal.invariant-loop-row
invariant-loop-row l = Marks l.initial.marked l.marked (HasVariable (take l.row-index l.rows))
