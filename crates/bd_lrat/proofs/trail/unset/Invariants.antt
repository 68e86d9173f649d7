use Rattle.std.proofs.Common.{drop}
use Rattle.bd_cnf.specs.Trail.{IsLeft}
use Rattle.bd_lrat.proofs.trail.unset.Given as goal

abbrev pub invariant-loop-lit : goal.invariant-loop-lit
invariant-loop-lit l = IsLeft l.values (drop l.lit-index l.lits)
