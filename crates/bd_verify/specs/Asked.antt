-- What the solver that is handed in says: the answer and the log that a verdict rests on are its own, of the formula that
-- is kept and within the whole budget, and of the very call that leads from the solver before to the one after. A solver
-- changes where it is asked, so a second question goes to a later one.
use Rattle.std.specs.Prelude.{ℕ, Bool, List, if◌then◌else◌}
use Rattle.bd_model.specs.DesignView.{DesignView}
use Rattle.bd_cnf.specs.Problem.{Problem}
use Rattle.bd_lrat.specs.declared.line.Line.{Line}
use Rattle.bd_cdcl.specs.declared.solver.Found.{Found}
use Rattle.bd_cdcl.specs.declared.solver.Found.TheVariants as found
use Rattle.bd_verify.specs.declared.deciding.Decided.{Decided}
use Rattle.bd_verify.specs.declared.deciding.Decided.TheVariants as decided
use Rattle.bd_verify.specs.declared.verdict.Mode.{Mode}
use Rattle.bd_verify.specs.declared.verdict.Question.TheVariants as question
use Rattle.bd_verify.specs.declared.verdict.Work.{Work}
use Rattle.bd_verify.specs.declared.verdict.Verdict.{Verdict}
use Rattle.bd_verify.specs.declared.verdict.Verdict.TheVariants.{Correct, Wrong, Void, Undecided}
use Rattle.bd_verify.specs.Verdict.{IsWorkOf}

-- this answer with the log of the work is said of its formula within the budget
abbrev pub IsSaid : (Problem → ℕ → Found → List Line → Type 0) → ℕ → Found → Work → Type 0
IsSaid says budget answer work = says work.cnf budget answer work.log

-- some model with the log of the work is said of its formula within the budget
abbrev pub IsModelSaid : (Problem → ℕ → Found → List Line → Type 0) → ℕ → Work → Type 0
IsModelSaid says budget work = (model : _) × IsSaid says budget (found.Model model) work

-- the answer by which a root is decided is said of its formula
abbrev pub IsDecisionSaid : (Problem → ℕ → Found → List Line → Type 0) → ℕ → Decided → Type 0
IsDecisionSaid says budget (decided.Valid work) = IsSaid says budget found.Refuted work
IsDecisionSaid says budget (decided.False t work) = IsModelSaid says budget work
IsDecisionSaid says budget (decided.Spent work) = IsSaid says budget found.Spent work

-- the answer that gives the verdict is said of its formula
abbrev pub IsVerdictSaid : (Problem → ℕ → Found → List Line → Type 0) → ℕ → Verdict → Type 0
IsVerdictSaid says budget (Correct c work) = IsSaid says budget found.Refuted work
IsVerdictSaid says budget (Wrong k c work) = IsModelSaid says budget work
IsVerdictSaid says budget (Void work) = IsSaid says budget found.Refuted work
IsVerdictSaid says budget (Undecided asked work) = IsSaid says budget found.Spent work

-- the solver finds a case that meets the invariant, within this budget, and is another one after that
abbrev pub MeetsFirst : {S : Type 0} → (S → S → Problem → ℕ → Found → List Line → Type 0) → S → S → DesignView → Mode → ℕ → Type 0
MeetsFirst says before after d mode budget =
    (work : Work) × ((model : _) × IsWorkOf d question.Meets mode budget (found.Model model) work × IsSaid (says before after) budget (found.Model model) work)

-- the solver is asked first whether a case meets the invariant; where one does, what it is right after that answer is asked,
-- with the whole budget again, and gives the verdict
abbrev pub IsAskedInTurn : {S : Type 0} → (S → S → Problem → ℕ → Found → List Line → Type 0) → S → S → DesignView → Mode → ℕ → Verdict → Type 0
IsAskedInTurn says before after d mode budget (Correct c work) =
    (between : _) × MeetsFirst says before between d mode budget × IsSaid (says between after) budget found.Refuted work
IsAskedInTurn says before after d mode budget (Wrong k c work) =
    (between : _) × MeetsFirst says before between d mode budget × IsModelSaid (says between after) budget work
IsAskedInTurn says before after d mode budget (Void work) = IsSaid (says before after) budget found.Refuted work
IsAskedInTurn says before after d mode budget (Undecided question.Meets work) = IsSaid (says before after) budget found.Spent work
IsAskedInTurn says before after d mode budget (Undecided question.Breaks work) =
    (between : _) × MeetsFirst says before between d mode budget × IsSaid (says between after) budget found.Spent work

-- how many questions a verdict is of: where an invariant is given, a second one if a case meets it
abbrev pub questions : Bool → Verdict → ℕ
questions given (Correct c work) = if given then 2 else 1
questions given (Wrong k c work) = if given then 2 else 1
questions given (Void work) = 1
questions given (Undecided question.Meets work) = 1
questions given (Undecided question.Breaks work) = if given then 2 else 1

-- the most questions of a verdict
abbrev pub most_questions : Bool → ℕ
most_questions given = if given then 2 else 1
