use Rattle.bd_model.specs.DesignView.{design_view}
use Rattle.bd_slice.proofs.Marked.{decides}
use Rattle.bd_slice.proofs.slice.slice_of.Goals as goal

pub returns : goal.returns
returns c =
    let case = c.args.case.now in
    let traced = c.in_ok-traced.ensures in
    let stands = rw c.as_slice-nodes.ensures at c.in_ok-marks.ensures.stands in
    let places = rw (c.as_slice-nodes.ensures, c.as_slice-2.ensures.value) at c.in_ok-places.ensures in
    decides (design_view c.args.design.now) case c.args.column c.args.spot c.spot_of.new.graph.nodes c.in_ok-marks.marks.items c.in_ok-places.places c.in_ok-traced.traced c.requires.fits
    (λ o h other.
    let before = traced.grows case o h in
    let state = c.in_ok-state.ensures.run o before c.requires.fits other in
    traced.follows o _ h (rw c.as_slice.ensures.value state))
    c.in_ok-marks.ensures.first c.in_ok-marks.ensures.node stands places
