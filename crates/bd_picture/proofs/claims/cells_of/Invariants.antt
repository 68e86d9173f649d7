use Rattle.bd_model.specs.DesignView.{design_view}
use Rattle.bd_picture.specs.declared.grid.Signal.TheVariants as place
use Rattle.std.proofs.Common.{take}
use Rattle.std.specs.List.{AllZip}
use Rattle.bd_picture.specs.Claims.{IsClaimsCell}
use Rattle.bd_picture.proofs.claims.cells_of.Given as goal

abbrev pub invariant-loop-head : goal.invariant-loop-head
invariant-loop-head l = AllZip (IsClaimsCell (design_view l.view.design.now) l.view.case.now l.view.diagram.now (place.Value l.claim.spot)) (take l.head-index l.heads) l.cells.items
