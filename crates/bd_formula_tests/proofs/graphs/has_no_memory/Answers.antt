use Rattle.std.proofs.Common.{ℕ, ◌<◌, ◌≤◌, arith}
use Rattle.bd_terms.proofs.Older.{Reaches-below}
use Rattle.bd_formula_tests.proofs.graphs.has_no_memory.Goals as goal

pub returns : goal.returns
returns c = λ t. record {
  none = λ id r m.
      let below : id ≤ c.args.root = Reaches-below c.args.graph.now c.len-index-end.ensures.graph c.args.root id r in
      let inside : id < c.loop-index.index = omega (arith, below, c.requires, c.loop-index-test.false, c.len-index-end.ensures.len) in
      c.loop-index.invariant id inside m;
}
