use Rattle.std.proofs.Common.{take}
use Rattle.bd_diverse.proofs.Marking.{MarksSymbols}
use Rattle.bd_diverse.proofs.finding.marked.Given as goal

abbrev pub invariant-loop-symbol : goal.invariant-loop-symbol
invariant-loop-symbol l = MarksSymbols l.positive (take l.symbol-index l.symbol-items) l.marked
