use Rattle.bd_model.specs.DesignView.{design_view}
use Rattle.std.proofs.lemmas.List.Elements.{All-push}
use Rattle.bd_picture.specs.Claims.{IsClaimsRow}
use Rattle.bd_picture.proofs.claims.rows.Goals as goal

pub loop-claim-preserved : goal.loop-claim-preserved
loop-claim-preserved c =
    rw c.in_ok-push.ensures.items (All-push (IsClaimsRow (design_view c.args.view.now.design.now) c.args.view.now.case.now c.args.view.now.diagram.now c.args.heads.now) _ _ c.loop-claim.invariant c.in_ok-row.ensures)
