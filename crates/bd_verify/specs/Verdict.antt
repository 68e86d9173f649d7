-- What a verdict on a design means, and its work: the kept formula of the question, which is satisfiable exactly where
-- some fitting case breaks a condition, or meets the invariant, and the log of an honest solver's answer over it (Burch
-- and Dill 1994; DIMACS CNF; textual LRAT).
use Rattle.std.specs.Prelude.{◌≡◌, ◌↔◌, ℕ, Bool, true}
use Rattle.bd_model.specs.DesignView.{DesignView}
use Rattle.bd_model.specs.Fits.{Fits}
use Rattle.bd_model.specs.Conditions.{Breaks, IsJudged, MeetsInvariant, SomeCaseMeetsInvariant}
use Rattle.bd_model.specs.Right.{IsRight}
use Rattle.bd_model.specs.declared.case.Case.{Case}
use Rattle.bd_model.specs.declared.case.Condition.{Condition}
use Rattle.bd_model.specs.declared.case.Judged.TheVariants as judged
use Rattle.bd_cnf.specs.Clause.{Satisfies}
use Rattle.bd_cnf.specs.Problem.{Problem}
use Rattle.bd_cdcl.specs.Law.{IsLaw}
use Rattle.bd_cdcl.specs.declared.solver.Found.{Found}
use Rattle.bd_cdcl.specs.declared.solver.Found.TheVariants as found
use Rattle.bd_verify.specs.declared.verdict.Mode.{Mode}
use Rattle.bd_verify.specs.declared.verdict.Question.{Question}
use Rattle.bd_verify.specs.declared.verdict.Question.TheVariants as question
use Rattle.bd_verify.specs.declared.verdict.Work.{Work}
use Rattle.bd_verify.specs.declared.verdict.Verdict.{Verdict}
use Rattle.bd_verify.specs.declared.verdict.Verdict.TheVariants.{Correct, Wrong, Void, Undecided}
use Rattle.bd_verify.specs.Kept.{IsKept}

-- what a verdict says of a design, where an invariant is given or none: it is right, and a case meets a given invariant;
-- a fitting case breaks the condition; an invariant is given that no case meets; or nothing
abbrev pub Says : DesignView → Bool → Verdict → Type 0
Says d given (Correct met work) = IsRight d × (given ≡ true → SomeCaseMeetsInvariant d)
Says d given (Wrong which c work) = Fits d c × IsJudged d c (judged.Broken which)
Says d given (Void work) = (given ≡ true) × (¬ SomeCaseMeetsInvariant d)
Says d given (Undecided asked work) = Unit {0}

-- what a question asks of a case: that it breaks a condition, or that its state meets the invariant
abbrev pub IsAsked : Question → DesignView → Case → Type 0
IsAsked question.Breaks d c = (which : Condition) × Breaks d c which
IsAsked question.Meets d c = MeetsInvariant d c.interp c.state

-- the formula is satisfiable exactly where some fitting case is such
pub record Keeps (d : DesignView) (such : Case → Type 0) (formula : Problem) : Type 0 where
  pub decides : ((v : ℕ → Bool) × Satisfies v formula.clauses) ↔ ((c : Case) × Fits d c × such c)

-- the kept formula of a question, and the log of an honest solver's answer over it
pub record IsWorkOf (d : DesignView) (asked : Question) (mode : Mode) (budget : ℕ) (answer : Found) (work : Work) : Type 0 where
  pub kept : IsKept d asked mode work.cnf
  pub keeps : Keeps d (IsAsked asked d) work.cnf
  pub law : IsLaw work.cnf budget answer work.log

-- the work of a verdict: a refutation for `correct` and `void`, a model for `wrong`, else the budget is spent
abbrev pub HasWork : DesignView → Mode → ℕ → Verdict → Type 0
HasWork d mode budget (Correct c work) = IsWorkOf d question.Breaks mode budget found.Refuted work
HasWork d mode budget (Wrong k c work) = (model : _) × IsWorkOf d question.Breaks mode budget (found.Model model) work
HasWork d mode budget (Void work) = IsWorkOf d question.Meets mode budget found.Refuted work
HasWork d mode budget (Undecided asked work) = IsWorkOf d asked mode budget found.Spent work
