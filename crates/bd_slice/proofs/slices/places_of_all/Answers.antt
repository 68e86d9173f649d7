use Rattle.bd_model.specs.DesignView.{design_view}
use Rattle.bd_slice.proofs.Followings.{decides_all}
use Rattle.bd_slice.proofs.slices.places_of_all.Goals as goal

pub returns : goal.returns
returns c =
    let stands = rw c.as_slice-nodes.ensures at c.in_ok-marks.ensures.stands in
    let places = rw (c.as_slice-nodes.ensures, c.as_slice.ensures.value) at c.in_ok-places.ensures in
    decides_all (design_view c.args.design.now) c.args.case.now _ _ _ _ c.args.wants.now c.requires c.in_ok-node.ensures c.in_ok-marks.ensures.first c.in_ok-marks.ensures.node stands places
