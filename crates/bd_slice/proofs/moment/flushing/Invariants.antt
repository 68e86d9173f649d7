use Rattle.std.proofs.Common.{◌≡◌}
use Rattle.bd_model.specs.Cycle.{flush_cycles}
use Rattle.bd_model.specs.DesignView.{design_view}
use Rattle.bd_slice.specs.History.{AreMoments}
use Rattle.bd_slice.specs.inner.Moments.{flush_moment}
use Rattle.bd_slice.proofs.moment.flushing.Given as goal

abbrev pub invariant-loop-cycle : goal.invariant-loop-cycle
invariant-loop-cycle l = record {
  reached : l.reached ≡ flush_cycles l._cycle (design_view l.design).pipe l.case.interp l.fn.state;
  moments : AreMoments l._cycle (flush_moment (design_view l.design) l.case l.fn.state) l.moments;
}
