use Rattle.std.specs.List.{All}
use Rattle.bd_picture.specs.Cells.{IsStepsRow}
use Rattle.bd_picture.proofs.steps.rows.Given as goal

abbrev pub invariant-loop-line : goal.invariant-loop-line
invariant-loop-line l = All (IsStepsRow l.view.diagram.now l.heads) l.rows.items
