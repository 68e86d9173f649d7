use Rattle.std.proofs.Common.{take}
use Rattle.std.specs.List.{AllZip}
use Rattle.bd_picture.specs.Cells.{IsStepsCell}
use Rattle.bd_picture.proofs.steps.cells_of.Given as goal

abbrev pub invariant-loop-head : goal.invariant-loop-head
invariant-loop-head l = AllZip (IsStepsCell l.view.diagram.now l.place) (take l.head-index l.heads) l.cells.items
