use Rattle.std.proofs.Common.{◌≡◌, ◌++◌, ◌-◌}
use Rattle.bd_model.specs.DesignView.{machine_view}
use Rattle.bd_diagram.specs.Flushes.{flush_states, flush_inputs}
use Rattle.bd_diagram.proofs.flushing.flushing_from.Given as goal

abbrev pub invariant-loop-cycle : goal.invariant-loop-cycle
invariant-loop-cycle l = record {
  states : l.states.items ++ flush_states (l.design.flush - l._cycle) (machine_view l.design.pipe) l.interp l.reached
      ≡ flush_states l.design.flush (machine_view l.design.pipe) l.interp l.state;
  inputs : l.inputs.items ++ flush_inputs (l.design.flush - l._cycle) (machine_view l.design.pipe) l.interp l.reached
      ≡ flush_inputs l.design.flush (machine_view l.design.pipe) l.interp l.state;
}
