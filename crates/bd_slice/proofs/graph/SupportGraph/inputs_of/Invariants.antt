use Rattle.std.proofs.Common.{take}
use Rattle.bd_model.specs.DesignView.{DesignView}
use Rattle.bd_model.specs.Fits.{Fits}
use Rattle.bd_slice.specs.inner.Followed.{Other, Holds, Grows, FollowsInputs}
use Rattle.bd_slice.proofs.graph.SupportGraph.inputs_of.Given as goal

abbrev pub invariant-loop-i : goal.invariant-loop-i
invariant-loop-i l = record {
  grows : Grows l.fn.self.nodes l.self.nodes;
  follows : (d : DesignView) (o : Other) → Holds l.case l.self.nodes o → Fits d l.case → Fits d o.case → FollowsInputs o l.inputs.items (take l.i o.case.inputs);
}
