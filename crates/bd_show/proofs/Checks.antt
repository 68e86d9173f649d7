-- What `check` says of a design, and what it saves, are so of the texts.
use Rattle.std.proofs.Common.{◌≡◌, ℕ, List, refl, sym, subst}
use Rattle.std.specs.Prelude.{Option, Some, None, Result, Ok, Err, IfOk}
use Rattle.std.specs.declared.alloc.AllocError.{AllocError}
use Rattle.std.proofs.lemmas.Result.{IfOk-weaker}
use Rattle.bd_about.specs.Findings.{finding_of}
use Rattle.bd_about.specs.declared.asking.Finding.TheVariants as finding
use Rattle.bd_app.specs.Loading.{bytes_of}
use Rattle.bd_app.specs.Texts.{IsTextOf, case_kind}
use Rattle.bd_app.specs.Verdicts.{IsTrueVerdict}
use Rattle.bd_model.specs.DesignView.{DesignView}
use Rattle.bd_model.specs.declared.case.Case.{Case}
use Rattle.bd_model.specs.declared.case.Condition.{Condition}
use Rattle.bd_verify.specs.declared.verdict.Verdict.{Verdict}
use Rattle.bd_verify.specs.declared.verdict.Verdict.TheVariants as verdict
use Rattle.bd_verify.specs.declared.verdict.Work.{Work}
use Rattle.std.specs.Prelude.{Bool}
use Rattle.bd_show.specs.Files.{AreDesign, Texts}
use Rattle.bd_show.specs.Meaning.{Check, Says, check}
use Rattle.bd_show.specs.declared.answer.Ended.{Ended}
use Rattle.bd_show.specs.declared.answer.Ended.TheVariants as ended
use Rattle.bd_show.specs.declared.show.Showing.{Showing}
use Rattle.bd_show.specs.inner.Answered.{IsCaseKept, IsCaseSaved, IsOfVerdict}

says : (q : Check) (t : Texts) (d : DesignView) (e : Ended) (text : List ℕ) → AreDesign t (Ok d) → IsOfVerdict q d e text → Says (check q) t e text
says q t d (ended.Checked found) text is said = (d, is, said)
says q t d _ text is said = absurd said

kept : (t : Texts) (d : DesignView) (e : Ended) (bytes : Option (List ℕ)) → AreDesign t (Ok d) → IsCaseSaved d e bytes → IsCaseKept t e bytes
kept t d (ended.Checked (finding.Wrong k)) bytes is saved = (d, is, saved)
kept t d _ bytes is saved = saved

pub verdict_says : (q : Check) (t : Texts) (d : DesignView) (r : Result Showing AllocError) → AreDesign t (Ok d) → IfOk r (λ s. IsOfVerdict q d s.answer.ended s.answer.text.items)
    → IfOk r (λ s. Says (check q) t s.answer.ended s.answer.text.items)
verdict_says q t d r is said = IfOk-weaker r _ _ (λ s h. says q t d s.answer.ended s.answer.text.items is h) said

pub case_kept : (t : Texts) (d : DesignView) (r : Result Showing AllocError) → AreDesign t (Ok d) → IfOk r (λ s. IsCaseSaved d s.answer.ended (bytes_of s.page)) → IfOk r (λ s. IsCaseKept t s.answer.ended (bytes_of s.page))
case_kept t d r is saved = IfOk-weaker r _ _ (λ s h. kept t d s.answer.ended (bytes_of s.page) is h) saved

-- the text of the case of `wrong`
pub wrong_saved : (d : DesignView) (given : Bool) (v : Verdict) (k : Condition) (c : Case) (work : Work) (bytes : List ℕ) → v ≡ verdict.Wrong k c work → IsTrueVerdict d given v → IsTextOf case_kind d c bytes
    → IsCaseSaved d (ended.Checked (finding_of v)) (Some bytes)
wrong_saved d given v k c work bytes is true_is printed =
    let held = subst (IsTrueVerdict d given) is true_is in
    subst (λ x. IsCaseSaved d (ended.Checked (finding_of x)) (Some bytes)) (sym is) (record { case = c; fits = held.0; is_judged = held.1; printed = printed })
