use Rattle.std.proofs.Common.{◌≡◌, drop}
use Rattle.bd_lrat.specs.Database.{variable_past}
use Rattle.bd_lrat.proofs.checker.variable_past.Given as goal

abbrev pub invariant-loop-lit : goal.invariant-loop-lit
invariant-loop-lit l = variable_past l.vars (drop l.lit-index l.clause) ≡ variable_past l.vars l.clause
