use Rattle.std.proofs.Common.{◌≡◌, ◌+◌, drop}
use Rattle.bd_lrat.specs.Database.{database_of}
use Rattle.bd_lrat.specs.Log.{refused_from}
use Rattle.bd_lrat.proofs.refutation.refused_line.Given as goal

abbrev pub invariant-loop-index : goal.invariant-loop-index
invariant-loop-index l = refused_from 1 (database_of l.cnf) l.line-items ≡ refused_from (l.index + 1) l.checker (drop l.index l.line-items)
