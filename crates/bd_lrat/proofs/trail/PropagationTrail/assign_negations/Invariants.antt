use Rattle.std.proofs.Common.{◌≡◌, take, map}
use Rattle.bd_cnf.specs.Literal.{negate}
use Rattle.bd_cnf.specs.Trail.{trail_of}
use Rattle.bd_lrat.proofs.trail.PropagationTrail.assign_negations.Given as goal

abbrev pub invariant-loop-lit : goal.invariant-loop-lit
invariant-loop-lit l = l.self ≡ trail_of l.fn.self.limit (map negate (take l.lit-index l.clause))
