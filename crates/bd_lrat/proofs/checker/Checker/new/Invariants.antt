use Rattle.std.proofs.Common.{◌≡◌, take}
use Rattle.bd_lrat.specs.Database.{numbered}
use Rattle.bd_lrat.specs.inner.Store.{store}
use Rattle.bd_lrat.proofs.checker.Checker.new.Given as goal

abbrev pub invariant-loop-clause : goal.invariant-loop-clause
invariant-loop-clause l = record {
  last : l.last ≡ l.clause-index;
  clauses : l.clauses ≡ store l.last (numbered (take l.clause-index l.clause-items));
}
