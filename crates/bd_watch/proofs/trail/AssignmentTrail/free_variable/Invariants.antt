use Rattle.std.proofs.Common.{◌≡◌, ◌<◌, ℕ, true}
use Rattle.bd_cnf.specs.Literal.{has_variable}
use Rattle.bd_watch.specs.Levels.{literals}
use Rattle.bd_watch.proofs.trail.AssignmentTrail.free_variable.Given as goal

abbrev pub invariant-loop-var : goal.invariant-loop-var
invariant-loop-var l = (k : ℕ) → 0 < k → k < l.var → has_variable (literals l.self.entries) k ≡ true
