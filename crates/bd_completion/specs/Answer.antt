-- What an answer on an abstraction means (completion functions: Hosabettu, Srivas and Gopalakrishnan 1998), and its
-- work: the kept formula of the question, and the log of an honest solver's answer over it (Burch and Dill 1994; DIMACS
-- CNF; textual LRAT).
use Rattle.std.specs.Prelude.{◌≡◌, ℕ, Bool, true, false, List}
use Rattle.bd_model.specs.Abstraction.{AbstractionView}
use Rattle.bd_model.specs.DesignView.{DesignView}
use Rattle.bd_model.specs.Fits.{Fits}
use Rattle.bd_model.specs.Conditions.{JudgedBy}
use Rattle.bd_model.specs.Right.{Agrees, RightBy}
use Rattle.bd_model.specs.declared.case.Judged.TheVariants as judged
use Rattle.bd_goal.specs.Laws.{Differs}
use Rattle.bd_cnf.specs.Problem.{Problem}
use Rattle.bd_lrat.specs.declared.line.Line.{Line}
use Rattle.bd_cdcl.specs.Law.{IsLaw}
use Rattle.bd_cdcl.specs.declared.solver.Found.{Found}
use Rattle.bd_cdcl.specs.declared.solver.Found.TheVariants as found
use Rattle.bd_verify.specs.declared.verdict.Work.{Work}
use Rattle.bd_verify.specs.Asked.{IsModelSaid, IsSaid}
use Rattle.bd_verify.specs.Verdict.{Keeps}
use Rattle.bd_completion.specs.declared.answer.Complete.{Complete}
use Rattle.bd_completion.specs.declared.answer.Complete.TheVariants.{Right, Wrong, Agree, Differ, Undecided}
use Rattle.bd_completion.specs.Kept.{IsKeptBy, IsSought, abstraction_by}

-- what an answer says of a design and an abstraction: the design is right by it; a fitting case breaks the condition by
-- it; where agreement is asked, it agrees with flushing wherever the invariant is true; the invariant is true in the
-- state of a fitting case, and there the two differ; or nothing
abbrev pub Says : DesignView → AbstractionView → Bool → Complete → Type 0
Says d abs agree (Right work) = (agree ≡ false) × RightBy d (abstraction_by d abs)
Says d abs agree (Wrong which c work) =
    (agree ≡ false) × Fits d c × JudgedBy d (abstraction_by d abs) c (judged.Broken which)
Says d abs agree (Agree work) = (agree ≡ true) × Agrees d (abstraction_by d abs)
Says d abs agree (Differ c work) = (agree ≡ true) × Fits d c × Differs d (abstraction_by d abs) c
Says d abs agree (Undecided work) = Unit {0}

-- the kept formula of the question, which is satisfiable exactly if the condition that is sought holds of some fitting
-- case, and the log of an honest solver's answer over it
pub record IsWorkBy (d : DesignView) (abs : AbstractionView) (agree : Bool) (budget : ℕ) (answer : Found)
    (work : Work) : Type 0 where
  pub kept : IsKeptBy d abs agree work.cnf
  pub keeps : Keeps d (IsSought d (abstraction_by d abs) agree) work.cnf
  pub law : IsLaw work.cnf budget answer work.log

-- the work of an answer: a refutation if what is sought holds of no case, a model if it holds of one, else the budget is
-- spent
abbrev pub HasWork : DesignView → AbstractionView → Bool → ℕ → Complete → Type 0
HasWork d abs agree budget (Right work) = IsWorkBy d abs agree budget found.Refuted work
HasWork d abs agree budget (Wrong which c work) =
    (model : _) × IsWorkBy d abs agree budget (found.Model model) work
HasWork d abs agree budget (Agree work) = IsWorkBy d abs agree budget found.Refuted work
HasWork d abs agree budget (Differ c work) =
    (model : _) × IsWorkBy d abs agree budget (found.Model model) work
HasWork d abs agree budget (Undecided work) = IsWorkBy d abs agree budget found.Spent work

-- the solver's answer that gives it is said of the formula within the budget
abbrev pub IsAnswerSaid : (Problem → ℕ → Found → List Line → Type 0) → ℕ → Complete → Type 0
IsAnswerSaid says budget (Right work) = IsSaid says budget found.Refuted work
IsAnswerSaid says budget (Wrong which c work) = IsModelSaid says budget work
IsAnswerSaid says budget (Agree work) = IsSaid says budget found.Refuted work
IsAnswerSaid says budget (Differ c work) = IsModelSaid says budget work
IsAnswerSaid says budget (Undecided work) = IsSaid says budget found.Spent work
