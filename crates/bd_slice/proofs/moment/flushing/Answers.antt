use Rattle.std.proofs.Common.{◌≡◌, ◌∙◌, ◌+◌, ap, refl, subst, sym, arith}
use Rattle.bd_model.specs.Cycle.{flush_cycles, idle_inputs, step}
use Rattle.bd_model.specs.DesignView.{design_view}
use Rattle.bd_slice.specs.History.{AreMoments}
use Rattle.bd_slice.specs.inner.Moments.{flush_moment}
use Rattle.bd_slice.proofs.Cycles.{flush_next}
use Rattle.bd_slice.proofs.Remembering.{moments_more, no_moments}
use Rattle.bd_slice.proofs.moment.flushing.Goals as goal

pub loop-cycle-init : goal.loop-cycle-init
loop-cycle-init c = record { reached = refl; moments = rw c.new-moments.ensures (no_moments _) }

pub loop-cycle-preserved : goal.loop-cycle-preserved
loop-cycle-preserved c =
    let m = (design_view c.args.design.now).pipe in
    let before = c.loop-cycle.invariant in
    record {
      reached = c.in_ok-next.ensures ∙ ap (step m c.args.case.now.interp c.loop-cycle.reached) c.in_ok-inputs.ensures
          ∙ ap (λ s. step m c.args.case.now.interp s (idle_inputs m c.args.case.now.interp s)) before.reached ∙ sym (flush_next c.loop-cycle._cycle m c.args.case.now.interp c.args.state);
      moments = moments_more c.loop-cycle._cycle (flush_moment (design_view c.args.design.now) c.args.case.now c.args.state) _ _ _ before.moments c.in_ok-push.ensures.ok (rw (c.in_ok-moment_of.ensures, c.in_ok-inputs.ensures, before.reached) refl);
    }

pub returns : goal.returns
returns c =
    let m = (design_view c.args.design.now).pipe in
    let before = c.loop-cycle.invariant in
    let last : c.loop-cycle._cycle ≡ c.args.design.now.flush = omega arith in
    rw last at (moments_more c.loop-cycle._cycle (flush_moment (design_view c.args.design.now) c.args.case.now c.args.state) _ _ _ before.moments c.in_ok-push-2.ensures.ok (rw (c.in_ok-moment_of-2.ensures, c.in_ok-inputs-2.ensures, before.reached) refl))
