-- What an answer on a bounded run means, and its work: the kept formula of the question, and the log of an honest
-- solver's answer over it (Burch and Dill 1994; DIMACS CNF; textual LRAT).
use Rattle.std.specs.Prelude.{ℕ, List}
use Rattle.bd_model.specs.DesignView.{DesignView}
use Rattle.bd_model.specs.Right.{BoundedRight}
use Rattle.bd_model.specs.TrailJudged.{IsTrailJudged}
use Rattle.bd_model.specs.declared.case.TrailJudged.TheVariants as judged
use Rattle.bd_goal.specs.Bounded.{IsTrailOver}
use Rattle.bd_cnf.specs.Problem.{Problem}
use Rattle.bd_lrat.specs.declared.line.Line.{Line}
use Rattle.bd_cdcl.specs.Law.{IsLaw}
use Rattle.bd_cdcl.specs.declared.solver.Found.{Found}
use Rattle.bd_cdcl.specs.declared.solver.Found.TheVariants as found
use Rattle.bd_verify.specs.declared.verdict.Mode.{Mode}
use Rattle.bd_verify.specs.declared.verdict.Mode.TheVariants.{Plain}
use Rattle.bd_verify.specs.declared.verdict.Work.{Work}
use Rattle.bd_verify.specs.Asked.{IsModelSaid, IsSaid}
use Rattle.bd_bounded.specs.declared.answer.Bounded.{Bounded}
use Rattle.bd_bounded.specs.declared.answer.Bounded.TheVariants.{Kept, Broken, Undecided}
use Rattle.bd_bounded.specs.Kept.{IsRunKept, KeepsRuns}

-- what an answer says: each fitting trail of at most so many cycles, from a first state in which the invariant is true,
-- is right; or this fitting trail of just so many breaks first in the cycle of this number; or nothing
abbrev pub Says : DesignView → ℕ → Bounded → Type 0
Says d cycles (Kept work) = BoundedRight d cycles
Says d cycles (Broken cycle t work) =
    IsTrailOver d cycles t × IsTrailJudged d t (judged.Broken cycle)
Says d cycles (Undecided work) = Unit {0}

-- the kept formula of the question in a mode, which is satisfiable exactly where some fitting trail of so many cycles is broken,
-- and the log of an honest solver's answer over it
pub record IsRunWork (d : DesignView) (cycles : ℕ) (mode : Mode) (budget : ℕ) (answer : Found) (work : Work) :
    Type 0 where
  pub kept : IsRunKept d cycles mode work.cnf
  pub keeps : KeepsRuns d cycles work.cnf
  pub law : IsLaw work.cnf budget answer work.log

-- the work of an answer: a refutation where the pipeline is right, a model where a trail is broken, else the budget is
-- spent
abbrev pub HasWorkIn : DesignView → ℕ → Mode → ℕ → Bounded → Type 0
HasWorkIn d cycles mode budget (Kept work) = IsRunWork d cycles mode budget found.Refuted work
HasWorkIn d cycles mode budget (Broken cycle t work) =
    (model : _) × IsRunWork d cycles mode budget (found.Model model) work
HasWorkIn d cycles mode budget (Undecided work) = IsRunWork d cycles mode budget found.Spent work

-- the same in plain mode
abbrev pub HasWork : DesignView → ℕ → ℕ → Bounded → Type 0
HasWork d cycles budget answer = HasWorkIn d cycles Plain budget answer

-- the solver's answer that gives it is said of the formula within the budget
abbrev pub IsAnswerSaid : (Problem → ℕ → Found → List Line → Type 0) → ℕ → Bounded → Type 0
IsAnswerSaid says budget (Kept work) = IsSaid says budget found.Refuted work
IsAnswerSaid says budget (Broken cycle t work) = IsModelSaid says budget work
IsAnswerSaid says budget (Undecided work) = IsSaid says budget found.Spent work
