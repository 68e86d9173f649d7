use Rattle.std.proofs.Common.{option_copied}
use Rattle.bd_equality.specs.declared.wanted.Wanted.{Wanted}
use Rattle.bd_equality.specs.inner.Steps.{IsEncoding, IsKnown, IsSettling}
use Rattle.bd_equality.proofs.Settling.{weight_all, width}
use Rattle.bd_equality.proofs.encoding.Encoding.settle.Given as goal

abbrev pub invariant-loop-visit : goal.invariant-loop-visit
invariant-loop-visit l = record {
  encoding : IsEncoding l.flat.graph l.flat.syms (option_copied l.marked) l.self.prop l.self.settled;
  stays : (w : Wanted) → IsKnown l.initial.self.settled w → IsKnown l.self.settled w;
  settling : IsSettling l.flat.graph l.flat.syms (option_copied l.marked) l.self.settled l.visits.items l.fn.wanted;
}

abbrev pub decreases-loop-visit : goal.decreases-loop-visit
decreases-loop-visit l = weight_all (width l.flat.syms) l.visits.items
