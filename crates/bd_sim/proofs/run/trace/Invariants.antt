use Rattle.std.proofs.Common.{◌≡◌, ◌++◌, ◌-◌}
use Rattle.bd_model.specs.DesignView.{machine_view}
use Rattle.bd_sim.specs.Trace.{trace_of}
use Rattle.bd_sim.proofs.run.trace.Given as goal

abbrev pub invariant-loop-cycle : goal.invariant-loop-cycle
invariant-loop-cycle l =
    l.states.items ++ trace_of (l.cycles - l._cycle) (machine_view l.design.pipe) l.case.interp l.state l.case.inputs
    ≡ trace_of l.cycles (machine_view l.design.pipe) l.case.interp l.case.state l.case.inputs
