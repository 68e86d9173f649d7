use Rattle.std.proofs.Common.{◌≡◌, List, Some}
use Rattle.std.specs.FinMap.{get}
use Rattle.bd_cnf.specs.Literal.{Literal}
use Rattle.bd_lrat.specs.Database.{numbered}
use Rattle.bd_cdcl.specs.inner.Analyses.{Analyzes}
use Rattle.bd_cdcl.proofs.cdcl.analyze.Analysis.analyze.Given as goal

abbrev pub invariant-loop-place : goal.invariant-loop-place
invariant-loop-place l = record {
  false_clause : List Literal;
  stands : get (numbered l.watch.clauses) l.conflict ≡ Some false_clause;
  analyzes : Analyzes l.watch l.start false_clause l.place l.self;
}

abbrev pub decreases-loop-place : goal.decreases-loop-place
decreases-loop-place l = l.place
