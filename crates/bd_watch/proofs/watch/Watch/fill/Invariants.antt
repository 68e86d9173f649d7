use Rattle.std.proofs.Common.{◌+◌, take}
use Rattle.bd_watch.specs.Watch.{IsLoaded}
use Rattle.bd_watch.proofs.watch.Watch.fill.Given as goal

abbrev pub invariant-loop-clause : goal.invariant-loop-clause
invariant-loop-clause l = IsLoaded (l.cnf.vars + 1) (take l.clause-index l.clause-items) l.self
