use Rattle.bd_model.specs.DesignView.{design_view}
use Rattle.std.specs.List.{All}
use Rattle.bd_picture.specs.Claims.{IsClaimsRow}
use Rattle.bd_picture.proofs.claims.rows.Given as goal

abbrev pub invariant-loop-claim : goal.invariant-loop-claim
invariant-loop-claim l = All (IsClaimsRow (design_view l.view.design.now) l.view.case.now l.view.diagram.now l.heads) l.rows.items
