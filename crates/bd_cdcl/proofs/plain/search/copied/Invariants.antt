use Rattle.std.proofs.Common.{◌≡◌, take}
use Rattle.std.specs.List.{All}
use Rattle.bd_cnf.specs.Clause.{IsRising}
use Rattle.bd_cdcl.proofs.plain.search.copied.Given as goal

abbrev pub invariant-loop-clause : goal.invariant-loop-clause
invariant-loop-clause l = record {
  same : l.copy.items ≡ take l.clause-index l.clause-items;
  rising : All IsRising l.copy.items;
}
