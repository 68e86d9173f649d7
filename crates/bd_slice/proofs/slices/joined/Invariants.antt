use Rattle.std.proofs.Common.{take}
use Rattle.std.specs.List.{All}
use Rattle.bd_model.specs.DesignView.{design_view}
use Rattle.bd_slice.specs.inner.Runs.{IsWhole, Pinned}
use Rattle.bd_slice.proofs.slices.joined.Given as goal

abbrev pub invariant-loop-want : goal.invariant-loop-want
invariant-loop-want l = record {
  whole : IsWhole (design_view l.design) l.case l.graph.nodes l.whole;
  pinned : All (Pinned (design_view l.design) l.case l.graph.nodes l.node) (take l.want-index l.wants);
}
