use Rattle.std.proofs.Common.{drop, IsTrue}
use Rattle.bd_model.specs.declared.table.Memory.{Memory}
use Rattle.bd_slice.specs.inner.Followed.{Other, Holds, Grows, FollowsLinks, ReadsBelow}
use Rattle.bd_slice.proofs.graph.SupportGraph.read.Given as goal

abbrev pub invariant-loop-link : goal.invariant-loop-link
invariant-loop-link l = record {
  grows : Grows l.fn.self.nodes l.self.nodes;
  comes : (o : Other) → Holds l.case l.self.nodes o → IsTrue (o.has l.node) → IsTrue (o.has l.address.node);
  reads : (o : Other) → Holds l.case l.self.nodes o → IsTrue (o.has l.node) → (m : Memory) → FollowsLinks o l.memory.base l.memory.links m
      → ReadsBelow o l.memory.base (drop l.link-index l.link-items) l.address.word m;
}
