use Rattle.std.proofs.Common.{◌≡◌, length}
use Rattle.bd_transitive.specs.inner.Spans.{AreClausesBelow}
use Rattle.bd_transitive.specs.inner.Rows.{HaveNumbers}
use Rattle.bd_transitive.proofs.clauses.clauses.Given as goal

abbrev pub invariant-loop-e : goal.invariant-loop-e
invariant-loop-e l = record {
  size : length l.rows.items ≡ l.count;
  numbers : HaveNumbers l.spans.keys l.rows.items l.e;
  clauses : AreClausesBelow l.spans.keys l.variables l.e l.clauses;
}
