use Rattle.std.proofs.Common.{◌≡◌, ◌∙◌, [], ap, refl, sym, arith}
use Rattle.bd_model.specs.Cycle.{step}
use Rattle.bd_model.specs.DesignView.{design_view}
use Rattle.bd_slice.specs.inner.Moments.{step_moment}
use Rattle.bd_slice.proofs.Cycles.{spec_next}
use Rattle.bd_slice.proofs.Remembering.{moments_more, no_moments}
use Rattle.bd_slice.proofs.moment.stepping.Goals as goal

pub loop-step-init : goal.loop-step-init
loop-step-init c = record { reached = refl; moments = rw c.new-moments.ensures (no_moments _) }

pub loop-step-preserved : goal.loop-step-preserved
loop-step-preserved c =
    let d = design_view c.args.design.now in
    let before = c.loop-step.invariant in
    record {
      reached = c.in_ok-next.ensures ∙ ap (λ s. step d.spec c.args.case.now.interp s []) before.reached ∙ sym (spec_next c.loop-step._step d c.args.case.now.interp c.args.visible);
      moments = moments_more c.loop-step._step (step_moment d c.args.case.now c.args.visible) _ _ _ before.moments c.in_ok-push.ensures.ok (rw (c.in_ok-plain_moment.ensures, before.reached) refl);
    }

pub returns : goal.returns
returns c =
    let d = design_view c.args.design.now in
    let before = c.loop-step.invariant in
    let last : c.loop-step._step ≡ c.args.design.now.steps = omega arith in
    rw last at (moments_more c.loop-step._step (step_moment d c.args.case.now c.args.visible) _ _ _ before.moments c.in_ok-push-2.ensures.ok (rw (c.in_ok-plain_moment-2.ensures, before.reached) refl))
