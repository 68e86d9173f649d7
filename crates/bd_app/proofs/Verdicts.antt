-- What verdicts are as answers.
use Rattle.std.proofs.Common.{◌≡◌, ◌≢◌, ◌∙◌, ℕ, true, Bool, List, [], ◌∷◌, ◌++◌, refl, sym, subst, ap}
use Rattle.std.specs.Prelude.{Option, Some, None, is_some}
use Rattle.bd_model.specs.DesignView.{DesignView}
use Rattle.bd_model.specs.Fits.{Fits}
use Rattle.bd_model.specs.Conditions.{IsJudged, SomeCaseMeetsInvariant}
use Rattle.bd_model.specs.Right.{IsRight}
use Rattle.bd_model.specs.declared.case.Case.{Case}
use Rattle.bd_model.specs.declared.case.Condition.{Condition}
use Rattle.bd_bounded.specs.declared.answer.Bounded.{Bounded}
use Rattle.bd_completion.specs.declared.answer.Complete.{Complete}
use Rattle.bd_model.specs.declared.case.Judged.{Judged}
use Rattle.bd_model.specs.declared.case.Judged.TheVariants as judged
use Rattle.bd_model.specs.declared.case.TrailJudged.{TrailJudged}
use Rattle.bd_verify.specs.Verdict.{HasWork}
use Rattle.bd_verify.specs.declared.verdict.Work.{Work}
use Rattle.bd_verify.specs.declared.verdict.Question.TheVariants.{Breaks, Meets}
use Rattle.bd_verify.specs.declared.verdict.Verdict.{Verdict}
use Rattle.bd_verify.specs.declared.verdict.Verdict.TheVariants as verdict
use Rattle.bd_app.specs.Answer.{HasReport, SavesNothing}
use Rattle.bd_app.specs.Verdicts.{IsVerdict, IsVerdictReport, MayGive, ended_by, verdict_words}
use Rattle.bd_app.specs.declared.answer.Answer.{Answer}
use Rattle.bd_app.specs.declared.answer.Which.{Which}
use Rattle.bd_app.specs.declared.answer.Ended.{Ended}
use Rattle.bd_app.specs.declared.answer.Ended.TheVariants.{Correct, Wrong, Void, Undecided, Replayed, Ran, Proved, Usage, Memory, Device}
use Rattle.bd_app.specs.declared.answer.Ended.TheVariants as endings
use Rattle.bd_app.specs.declared.verdict.Asked.{Asked}
use Rattle.bd_app.specs.declared.verdict.ShownVerdict.{ShownVerdict}
use Rattle.bd_app.specs.inner.Done.{IsShown}

-- ---- which answers they are

-- a verdict has a report
pub verdict_reports : (v : Verdict) → HasReport (ended_by v)
verdict_reports (verdict.Correct c work) = tt
verdict_reports (verdict.Wrong k c work) = tt
verdict_reports (verdict.Void work) = tt
verdict_reports (verdict.Undecided asked work) = tt

-- what has no report is no verdict
pub no_verdict : (e : Ended) (v : Verdict) → ¬ HasReport e → e ≢ ended_by v
no_verdict e v silent is = silent (subst HasReport (sym is) (verdict_reports v))

-- what has a report is no fault of a device
pub no_device : (e : Ended) (w : Which) → HasReport e → e ≢ Device w
no_device e w reported is = subst HasReport is reported

pub no_replayed : (v : Verdict) (j : Judged) → ended_by v ≢ Replayed j
no_replayed (verdict.Correct c work) j is = cc is
no_replayed (verdict.Wrong k c work) j is = cc is
no_replayed (verdict.Void work) j is = cc is
no_replayed (verdict.Undecided asked work) j is = cc is

pub no_ran : (v : Verdict) → ended_by v ≢ Ran
no_ran (verdict.Correct c work) is = cc is
no_ran (verdict.Wrong k c work) is = cc is
no_ran (verdict.Void work) is = cc is
no_ran (verdict.Undecided asked work) is = cc is

pub no_usage_verdict : (v : Verdict) → ended_by v ≢ Usage
no_usage_verdict v is = subst HasReport is (verdict_reports v)

pub no_memory_verdict : (v : Verdict) → ended_by v ≢ Memory
no_memory_verdict v is = subst HasReport is (verdict_reports v)

pub verdict_saves : (v : Verdict) → ¬ SavesNothing (ended_by v)
verdict_saves (verdict.Correct c work) is = is
verdict_saves (verdict.Wrong k c work) is = is
verdict_saves (verdict.Void work) is = is
verdict_saves (verdict.Undecided asked work) is = is

pub no_proved : (v : Verdict) (work : Work) → ended_by v ≢ Proved work
no_proved (verdict.Correct c w) work is = cc is
no_proved (verdict.Wrong k c w) work is = cc is
no_proved (verdict.Void w) work is = cc is
no_proved (verdict.Undecided asked w) work is = cc is

pub no_bounded : (v : Verdict) (answer : Bounded) → ended_by v ≢ endings.Bounded answer
no_bounded (verdict.Correct c work) answer is = cc is
no_bounded (verdict.Wrong k c work) answer is = cc is
no_bounded (verdict.Void work) answer is = cc is
no_bounded (verdict.Undecided asked work) answer is = cc is

pub no_retraced : (v : Verdict) (j : TrailJudged) → ended_by v ≢ endings.Retraced j
no_retraced (verdict.Correct c work) j is = cc is
no_retraced (verdict.Wrong k c work) j is = cc is
no_retraced (verdict.Void work) j is = cc is
no_retraced (verdict.Undecided asked work) j is = cc is

pub no_completed : (v : Verdict) (answer : Complete) → ended_by v ≢ endings.Completed answer
no_completed (verdict.Correct c work) answer is = cc is
no_completed (verdict.Wrong k c work) answer is = cc is
no_completed (verdict.Void work) answer is = cc is
no_completed (verdict.Undecided asked work) answer is = cc is

verdict_in : Ended → Option Verdict
verdict_in (Correct c work) = Some (verdict.Correct c work)
verdict_in (Wrong k c work) = Some (verdict.Wrong k c work)
verdict_in (Void work) = Some (verdict.Void work)
verdict_in (Undecided asked work) = Some (verdict.Undecided asked work)
verdict_in _ = None

verdict_back : (v : Verdict) → verdict_in (ended_by v) ≡ Some v
unfolding verdict_in
verdict_back (verdict.Correct c work) = refl
verdict_back (verdict.Wrong k c work) = refl
verdict_back (verdict.Void work) = refl
verdict_back (verdict.Undecided asked work) = refl

-- different verdicts are different answers
pub same_verdict : (v w : Verdict) → ended_by v ≡ ended_by w → v ≡ w
same_verdict v w is = cc (sym (verdict_back v) ∙ ap verdict_in is ∙ verdict_back w)

-- ---- what is ensured of each

pub may_be : (given : Bool) (v : Verdict) → ((c : Option Case) (work : Work) → v ≡ verdict.Correct c work → is_some c ≡ given) → ((work : Work) → v ≡ verdict.Void work → given ≡ true)
    → ((work : Work) → v ≡ verdict.Undecided Meets work → given ≡ true) → MayGive given v
may_be given (verdict.Correct c work) carried void meets = carried c work refl
may_be given (verdict.Wrong k c work) carried void meets = tt
may_be given (verdict.Void work) carried void meets = void work refl
may_be given (verdict.Undecided Breaks work) carried void meets = tt
may_be given (verdict.Undecided Meets work) carried void meets = meets work refl

pub verdict_is : (d : DesignView) (asked : Asked) (v : Verdict) → ((c : Option Case) (work : Work) → v ≡ verdict.Correct c work → IsRight d)
    → ((c : Case) (work : Work) → v ≡ verdict.Correct (Some c) work → Fits d c × IsJudged d c judged.Holds)
    → ((k : Condition) (c : Case) (work : Work) → v ≡ verdict.Wrong k c work → Fits d c × IsJudged d c (judged.Broken k))
    → ((work : Work) → v ≡ verdict.Void work → ¬ SomeCaseMeetsInvariant d) → ((work : Work) → v ≡ verdict.Undecided Breaks work → asked.given ≡ true → SomeCaseMeetsInvariant d)
    → HasWork d asked.mode asked.budget v → MayGive asked.given v → IsVerdict d asked v
verdict_is d asked (verdict.Correct None work) right holds wrong void met has may = record { may_give = may; is_true = (right None work refl, tt); work = has }
verdict_is d asked (verdict.Correct (Some c) work) right holds wrong void met has may = record { may_give = may; is_true = (right (Some c) work refl, holds c work refl); work = has }
verdict_is d asked (verdict.Wrong k c work) right holds wrong void met has may = record { may_give = may; is_true = wrong k c work refl; work = has }
verdict_is d asked (verdict.Void work) right holds wrong void met has may = record { may_give = may; is_true = void work refl; work = has }
verdict_is d asked (verdict.Undecided Breaks work) right holds wrong void met has may = record { may_give = may; is_true = met work refl; work = has }
verdict_is d asked (verdict.Undecided Meets work) right holds wrong void met has may = record { may_give = may; is_true = tt; work = has }

-- ---- their report

-- an answer that is made of a verdict and of the text of its case
pub verdict_report : (d : DesignView) (asked : Asked) (shows : Bool) (f : ShownVerdict) (lead : List ℕ) (a : Answer) → IsShown d asked shows f → a.ended ≡ ended_by f.verdict
    → a.report.items ≡ (lead ++ verdict_words asked.budget f.verdict ++ 10 ∷ []) ++ f.case.items → IsVerdictReport asked shows lead d a.ended a.report.items
verdict_report d asked shows f lead a is ended report = record {
  verdict = f.verdict;
  is_verdict = is.verdict;
  ended = ended;
  case = f.case.items;
  shown = is.case;
  whole = report;
}
