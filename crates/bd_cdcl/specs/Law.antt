-- What an honest solver's answer and log mean (conflict-driven solvers, with a log in textual LRAT).
use Rattle.std.specs.Prelude.{◌≡◌, ◌<◌, ◌≤◌, ◌^◌, ℕ, Bool, false, List, [], ◌∷◌, IsTrue}
use Rattle.bd_cnf.specs.Assignment.{value_of}
use Rattle.bd_cnf.specs.Clause.{Satisfies}
use Rattle.bd_cnf.specs.Problem.{Problem}
use Rattle.bd_lrat.specs.declared.line.Line.{Line}
use Rattle.bd_lrat.specs.Database.{database_of}
use Rattle.bd_lrat.specs.Deletions.{HasCoveredDeletions}
use Rattle.bd_lrat.specs.Log.{IsAcceptedLog, IsFresh, IsUnsettled, AddsRising, after_all, adds_empty, additions}
use Rattle.bd_cdcl.specs.declared.solver.Found.{Found}
use Rattle.bd_cdcl.specs.declared.solver.Found.TheVariants.{Model, Refuted, Spent}

-- the last line adds the empty clause
abbrev pub ends_empty : List Line → Bool
ends_empty [] = false
ends_empty (line ∷ []) = adds_empty line
ends_empty (line ∷ next ∷ lines) = ends_empty (next ∷ lines)

-- a model satisfies the formula; a refutation ends with the empty clause; the budget is spent only where exactly so many clauses of one literal or more were added and what then stands is unsettled
abbrev pub IsAnswer : Problem → ℕ → List Line → Found → Type 0
IsAnswer problem budget log (Model assignment) = Satisfies (value_of assignment) problem.clauses
IsAnswer problem budget log Refuted = IsTrue (ends_empty log)
IsAnswer problem budget log Spent = (additions log ≡ budget) × IsUnsettled (after_all (database_of problem) log).clauses

-- the law of an honest solver: its answer is right, each line of its log is accepted on what stands before it, the log is fresh, its deletions are covered, each clause that it adds is by rising variable, and no more clauses of one literal or more are added than the budget allows
pub record IsLaw (problem : Problem) (budget : ℕ) (found : Found) (log : List Line) : Type 0 where
  pub answer : IsAnswer problem budget log found
  pub accepted : IsAcceptedLog (database_of problem) log
  pub fresh : IsFresh problem log
  pub covered : HasCoveredDeletions problem log
  pub rising : AddsRising log
  pub within : additions log ≤ budget

-- no budget is spent that is 3 to the number of variables or more, since no clause is added twice
abbrev pub SpentBudgetsAreShort : Type 0
SpentBudgetsAreShort = (problem : Problem) (budget : ℕ) (log : List Line) → IsLaw problem budget Spent log → budget < 3 ^ problem.vars
