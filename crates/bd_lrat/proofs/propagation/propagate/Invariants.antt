use Rattle.std.proofs.Common.{◌≡◌}
use Rattle.bd_lrat.specs.Propagation.{propagate}
use Rattle.bd_lrat.proofs.propagation.propagate.Given as goal

abbrev pub invariant-loop-hint : goal.invariant-loop-hint
invariant-loop-hint l = record {
  limit : l.trail.limit ≡ l.fn.trail.limit;
  same : propagate l.clauses.clauses l.trail.literals l.hint-iterator ≡ propagate l.clauses.clauses l.fn.trail.literals l.hints;
}
