-- A budget that was spent is shorter than the longest fresh log.
use Rattle.std.proofs.Common.{◌<◌, ◌^◌, ℕ, List, subst}
use Rattle.bd_cnf.specs.Problem.{Problem}
use Rattle.bd_lrat.specs.declared.line.Line.{Line}
use Rattle.bd_lrat.proofs.FreshLogs.{fresh_is_short}
use Rattle.bd_cdcl.specs.declared.solver.Found.TheVariants.{Spent}
use Rattle.bd_cdcl.specs.Law.{IsLaw}

pub spent_is_short : (problem : Problem) (budget : ℕ) (log : List Line) → IsLaw problem budget Spent log → budget < 3 ^ problem.vars
spent_is_short problem budget log law =
    subst (λ n. n < 3 ^ problem.vars) law.answer.0 (fresh_is_short problem log law.accepted law.rising law.fresh)
