use Rattle.bd_model.specs.DesignView.{design_view}
use Rattle.bd_picture.specs.declared.grid.Signal.TheVariants as place
use Rattle.std.proofs.Common.{◌<◌, ◌≤◌, length, arith}
use Rattle.std.proofs.lemmas.List.{take_all}
use Rattle.bd_picture.specs.Claims.{IsClaimsCell}
use Rattle.bd_picture.proofs.Rows.{under_more}
use Rattle.bd_picture.proofs.claims.cells_of.Goals as goal

pub loop-head-preserved : goal.loop-head-preserved
loop-head-preserved c =
    let within : c.loop-head.head-index < length c.args.heads.now = omega arith in
    under_more (IsClaimsCell (design_view c.args.view.now.design.now) c.args.view.now.case.now c.args.view.now.diagram.now (place.Value c.args.claim.now.spot)) _ _ _ _ c.head-item.result _ within c.head-item.is c.loop-head.invariant c.in_ok-push.ensures.items c.cell_of.ensures

pub returns : goal.returns
returns c =
    let past : length c.args.heads.now ≤ c.loop-head.head-index = omega arith in
    rw (take_all c.loop-head.head-index c.args.heads.now past) at c.loop-head.invariant
