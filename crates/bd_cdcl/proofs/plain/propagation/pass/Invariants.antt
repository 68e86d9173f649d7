use Rattle.std.proofs.Common.{◌≡◌, take}
use Rattle.bd_lrat.specs.Database.{numbered}
use Rattle.bd_watch.specs.Levels.{IsComplete}
use Rattle.bd_cdcl.specs.inner.Passes.{IsPassing}
use Rattle.bd_cdcl.proofs.plain.propagation.pass.Given as goal

abbrev pub invariant-loop-place : goal.invariant-loop-place
invariant-loop-place l = record {
  limit : l.trail.limit ≡ l.initial.trail.limit;
  complete : IsComplete (numbered l.clauses) l.trail.entries;
  passing : IsPassing (take l.place l.clauses) l.initial.trail l.trail l.extended;
}
