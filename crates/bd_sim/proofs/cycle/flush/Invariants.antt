use Rattle.std.proofs.Common.{◌≡◌, ◌-◌}
use Rattle.bd_model.specs.Cycle.{flush_cycles}
use Rattle.bd_model.specs.DesignView.{machine_view}
use Rattle.bd_sim.proofs.cycle.flush.Given as goal

abbrev pub invariant-loop-cycle : goal.invariant-loop-cycle
invariant-loop-cycle l =
    flush_cycles (l.design.flush - l._cycle) (machine_view l.design.pipe) l.interp l.flushed ≡ flush_cycles l.design.flush (machine_view l.design.pipe) l.interp l.state
