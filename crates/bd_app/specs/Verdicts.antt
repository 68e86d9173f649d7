-- What a verdict is as an answer, and what it says of a design.
use Rattle.std.specs.Prelude.{◌≡◌, true, Bool, ℕ, List, [], ◌∷◌, ◌++◌, codes, Option, Some, None, IfSome, is_some}
use Rattle.std.specs.Fmt.{decimal}
use Rattle.bd_model.specs.DesignView.{DesignView}
use Rattle.bd_model.specs.Fits.{Fits}
use Rattle.bd_model.specs.Conditions.{IsJudged, SomeCaseMeetsInvariant}
use Rattle.bd_model.specs.Right.{IsRight}
use Rattle.bd_model.specs.declared.case.Case.{Case}
use Rattle.bd_model.specs.declared.case.Condition.TheVariants as condition
use Rattle.bd_model.specs.declared.case.Judged.TheVariants as judged
use Rattle.bd_verify.specs.Verdict.{HasWork}
use Rattle.bd_verify.specs.declared.verdict.Question.TheVariants.{Breaks, Meets}
use Rattle.bd_verify.specs.declared.verdict.Verdict.{Verdict}
use Rattle.bd_verify.specs.declared.verdict.Verdict.TheVariants as verdict
use Rattle.bd_verify.specs.declared.verdict.Work.{Work}
use Rattle.bd_app.specs.Texts.{IsTextOfIf, case_kind}
use Rattle.bd_app.specs.declared.answer.Ended.{Ended}
use Rattle.bd_app.specs.declared.answer.Ended.TheVariants.{Correct, Wrong, Void, Undecided}
use Rattle.bd_app.specs.declared.verdict.Asked.{Asked}

-- the answer that a verdict is
abbrev pub ended_by : Verdict → Ended
ended_by (verdict.Correct c work) = Correct c work
ended_by (verdict.Wrong k c work) = Wrong k c work
ended_by (verdict.Void work) = Void work
ended_by (verdict.Undecided asked work) = Undecided asked work

abbrev pub work_of : Verdict → Work
work_of (verdict.Correct c work) = work
work_of (verdict.Wrong k c work) = work
work_of (verdict.Void work) = work
work_of (verdict.Undecided asked work) = work

-- what a verdict says of a design, where an invariant is given or not
abbrev pub IsTrueVerdict : DesignView → Bool → Verdict → Type 0
IsTrueVerdict d given (verdict.Correct c work) =
    IsRight d × IfSome c (λ c. Fits d c × IsJudged d c judged.Holds)
IsTrueVerdict d given (verdict.Wrong k c work) = Fits d c × IsJudged d c (judged.Broken k)
IsTrueVerdict d given (verdict.Void work) = ¬ SomeCaseMeetsInvariant d
IsTrueVerdict d given (verdict.Undecided Breaks work) = given ≡ true → SomeCaseMeetsInvariant d
IsTrueVerdict d given (verdict.Undecided Meets work) = Unit {0}

-- the verdicts that may come with an invariant, or without
abbrev pub MayGive : Bool → Verdict → Type 0
MayGive given (verdict.Correct c work) = is_some c ≡ given
MayGive given (verdict.Void work) = given ≡ true
MayGive given (verdict.Undecided Meets work) = given ≡ true
MayGive given _ = Unit {0}

-- the verdict is one that may come, is true of the design, and has the formula and the log that
-- show it
pub record IsVerdict (d : DesignView) (asked : Asked) (v : Verdict) : Type 0 where
  pub may_give : MayGive asked.given v
  pub is_true : IsTrueVerdict d asked.given v
  pub work : HasWork d asked.mode asked.budget v

-- ---- its report

-- a verdict under this budget, in words
abbrev pub verdict_words : ℕ → Verdict → List ℕ
verdict_words budget (verdict.Correct c work) = codes "correct"
verdict_words budget (verdict.Wrong condition.Invariant c work) = codes "wrong invariant"
verdict_words budget (verdict.Wrong condition.Commute c work) = codes "wrong commute"
verdict_words budget (verdict.Void work) = codes "void"
verdict_words budget (verdict.Undecided Breaks work) = codes "undecided " ++ decimal budget
verdict_words budget (verdict.Undecided Meets work) =
    codes "undecided " ++ decimal budget ++ codes " meets"

-- the case that a verdict carries, where cases are shown
abbrev pub shown_case : Bool → Verdict → Option Case
shown_case true (verdict.Correct c work) = c
shown_case true (verdict.Wrong k c work) = Some c
shown_case _ _ = None

-- the answer is a verdict on the design, with its report: a line that begins with `lead`, and the
-- case, where cases are shown
pub record IsVerdictReport (asked : Asked) (shows : Bool) (lead : List ℕ) (d : DesignView)
    (e : Ended) (report : List ℕ) : Type 0 where
  pub verdict : Verdict
  pub is_verdict : IsVerdict d asked verdict
  pub ended : e ≡ ended_by verdict
  pub case : List ℕ
  pub shown : IsTextOfIf case_kind d (shown_case shows verdict) case
  pub whole : report ≡ (lead ++ verdict_words asked.budget verdict ++ 10 ∷ []) ++ case
