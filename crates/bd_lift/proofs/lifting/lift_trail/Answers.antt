-- The case of all cycles, cut.
use Rattle.std.proofs.Common.{◌≡◌, length, IfOk, sym, ◌∙◌, subst}
use Rattle.bd_model.specs.DesignView.{design_view, port_view}
use Rattle.bd_model.specs.Fits.{TrailFits}
use Rattle.bd_model.specs.declared.case.Trail.{Trail}
use Rattle.bd_symbolic.specs.Widened.{case_of_trail}
use Rattle.bd_lift.specs.Counting.{EachRowCounts}
use Rattle.bd_lift.specs.Lifted.{IsLifted}
use Rattle.bd_lift.proofs.Cutting.{IsCut, inputs-counted, is-cut}
use Rattle.bd_lift.proofs.Numbered.{length-map}
use Rattle.bd_lift.proofs.lifting.lift_trail.Goals as goal
use Rattle.bd_lift.proofs.lifting.lift_trail.Goals.{After-trail_of}
use Rattle.bd_list.proofs.Results.{if_ok}

pub trail_of-requires : goal.trail_of-requires
trail_of-requires c =
    let d = design_view c.args.design.now in
    inputs-counted d c.args.cycles c.len.result c.in_ok-case.case c.in_ok-case.ensures.fits (c.len.ensures ∙ sym (length-map port_view c.args.design.now.pipe.ports))

is_cut : (c : After-trail_of) → IfOk c.trail_of.result (IsCut (design_view c.args.design.now) c.args.cycles c.in_ok-case.case)
is_cut c =
    let d = design_view c.args.design.now in
    if_ok _ (IsCut d c.args.cycles c.in_ok-case.case) c.trail_of.result c.trail_of.ensures (λ t is.
    is-cut d c.args.cycles c.len.result c.in_ok-case.case t c.in_ok-case.ensures.fits (c.len.ensures ∙ sym (length-map port_view c.args.design.now.pipe.ports)) is)

pub returns-clause-fits : goal.returns-clause-fits
returns-clause-fits c =
    let k = (goal.at.returns-clause-fits c).After-trail_of in
    if_ok _ (λ t. TrailFits (design_view c.args.design.now) t) c.trail_of.result (is_cut k) (λ t h. h.fits)

pub returns-clause-cycles : goal.returns-clause-cycles
returns-clause-cycles c =
    let k = (goal.at.returns-clause-cycles c).After-trail_of in
    if_ok _ (λ (t : Trail). length t.inputs ≡ c.args.cycles) c.trail_of.result (is_cut k) (λ t h. h.counted)

pub returns-clause-lifted : goal.returns-clause-lifted
returns-clause-lifted c =
    let k = (goal.at.returns-clause-lifted c).After-trail_of in
    if_ok _ (λ t. IsLifted c.args.flat.now.graph c.args.flat.now.syms c.args.order.now c.args.values.now (case_of_trail t)) c.trail_of.result (is_cut k)
    (λ t h. subst (IsLifted c.args.flat.now.graph c.args.flat.now.syms c.args.order.now c.args.values.now) (sym h.again) c.in_ok-case.ensures.lifted)

pub returns-clause-counts : goal.returns-clause-counts
returns-clause-counts c =
    let k = (goal.at.returns-clause-counts c).After-trail_of in
    if_ok _ (λ t. EachRowCounts (case_of_trail t)) c.trail_of.result (is_cut k) (λ t h. subst EachRowCounts (sym h.again) c.in_ok-case.ensures.counts)
