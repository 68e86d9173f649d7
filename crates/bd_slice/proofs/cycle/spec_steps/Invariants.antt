use Rattle.std.proofs.Common.{◌≡◌, List, length}
use Rattle.bd_model.specs.Cycle.{spec_steps}
use Rattle.bd_model.specs.DesignView.{design_view}
use Rattle.bd_model.specs.declared.table.Value.{Value}
use Rattle.bd_slice.specs.inner.Followed.{Other, Holds, Grows, FollowsState}
use Rattle.bd_slice.specs.inner.Lines.{FollowsEach}
use Rattle.bd_slice.proofs.cycle.spec_steps.Given as goal

abbrev pub invariant-loop-step : goal.invariant-loop-step
invariant-loop-step l = record {
  grows : Grows l.fn.graph.nodes l.graph.nodes;
  count : length l.passed ≡ l._step;
  follows : (o : Other) (values : List Value) → Holds l.case l.graph.nodes o → FollowsState o l.fn.visible.items values
      → FollowsState o l.reached.items (spec_steps l._step (design_view l.design) o.case.interp values);
  passed : (o : Other) (values : List Value) → Holds l.case l.graph.nodes o → FollowsState o l.fn.visible.items values
      → FollowsEach o l.passed (λ n. spec_steps n (design_view l.design) o.case.interp values);
}
