use Rattle.std.proofs.Common.{take}
use Rattle.bd_model.specs.DesignView.{DesignView}
use Rattle.bd_model.specs.Fits.{Fits}
use Rattle.bd_slice.specs.inner.Followed.{Other, Holds, Grows, FollowsState}
use Rattle.bd_slice.proofs.graph.SupportGraph.state_of.Given as goal

abbrev pub invariant-loop-entry : goal.invariant-loop-entry
invariant-loop-entry l = record {
  grows : Grows l.fn.self.nodes l.self.nodes;
  follows : (d : DesignView) (o : Other) → Holds l.case l.self.nodes o → Fits d l.case → Fits d o.case → FollowsState o l.state.items (take l.entry o.case.state);
}
