use Rattle.std.proofs.Common.{◌≡◌}
use Rattle.bd_model.specs.Cycle.{spec_steps}
use Rattle.bd_model.specs.DesignView.{design_view}
use Rattle.bd_slice.specs.History.{AreMoments}
use Rattle.bd_slice.specs.inner.Moments.{step_moment}
use Rattle.bd_slice.proofs.moment.stepping.Given as goal

abbrev pub invariant-loop-step : goal.invariant-loop-step
invariant-loop-step l = record {
  reached : l.reached ≡ spec_steps l._step (design_view l.design) l.case.interp l.fn.visible;
  moments : AreMoments l._step (step_moment (design_view l.design) l.case l.fn.visible) l.moments;
}
