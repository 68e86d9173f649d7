use Rattle.std.proofs.Common.{ℕ, ◌<◌, List, Option, drop, length}
use Rattle.bd_prop.specs.Graph.{Extends}
use Rattle.bd_equality.specs.Made.{Pairs}
use Rattle.bd_equality.specs.inner.Means.{Gives}
use Rattle.bd_equality.specs.inner.Steps.{Include, IsEncoding}
use Rattle.bd_equality.proofs.encoding.compared.Given as goal

abbrev pub invariant-loop-index : goal.invariant-loop-index
invariant-loop-index l = record {
  extends : Extends l.fn.prop l.prop;
  within : l.all < length l.prop;
  gives : (marked : Option (List ℕ)) → IsEncoding l.flat.graph l.flat.syms marked l.fn.prop l.settled
      → Gives l.flat.graph l.flat.syms marked (Include l.flat.syms l.settled) l.fn.prop l.prop l.all (Pairs (drop l.index l.left) (drop l.index l.right));
}
