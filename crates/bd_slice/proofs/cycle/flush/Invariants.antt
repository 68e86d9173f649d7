use Rattle.std.proofs.Common.{◌≡◌, List, length}
use Rattle.bd_model.specs.Cycle.{flush_cycles}
use Rattle.bd_model.specs.DesignView.{machine_view}
use Rattle.bd_model.specs.declared.table.Value.{Value}
use Rattle.bd_slice.specs.inner.Followed.{Other, Holds, Grows, FollowsState}
use Rattle.bd_slice.specs.inner.Lines.{FollowsEach}
use Rattle.bd_slice.proofs.cycle.flush.Given as goal

abbrev pub invariant-loop-cycle : goal.invariant-loop-cycle
invariant-loop-cycle l = record {
  grows : Grows l.fn.graph.nodes l.graph.nodes;
  count : length l.passed ≡ l._cycle;
  follows : (o : Other) (values : List Value) → Holds l.case l.graph.nodes o → FollowsState o l.fn.state.items values
      → FollowsState o l.reached.items (flush_cycles l._cycle (machine_view l.machine) o.case.interp values);
  passed : (o : Other) (values : List Value) → Holds l.case l.graph.nodes o → FollowsState o l.fn.state.items values
      → FollowsEach o l.passed (λ n. flush_cycles n (machine_view l.machine) o.case.interp values);
}
