-- What is said of so many cycles from a start, in the design without it.
use Rattle.std.proofs.Common.{◌≡◌, ◌≤◌, ℕ, List, length, arith, refl, sym, subst}
use Rattle.std.specs.Prelude.{Option, Some, None, Result, Ok, Err, IfOk, Vec}
use Rattle.std.specs.declared.alloc.Global.{Global}
use Rattle.std.proofs.lemmas.Result.{IfOk-weaker}
use Rattle.std.specs.declared.alloc.AllocError.{AllocError}
use Rattle.bd_bounded.specs.Answer.{HasWorkIn, Says as SaysOfRuns}
use Rattle.bd_bounded.specs.declared.answer.Bounded.{Bounded}
use Rattle.bd_bounded.specs.declared.answer.Bounded.TheVariants.{Kept, Broken, Undecided}
use Rattle.bd_about.specs.declared.asking.Finding.TheVariants as finding
use Rattle.bd_app.specs.Loading.{bytes_of}
use Rattle.bd_app.specs.Texts.{IsTextOf, TrailFitsShort, trail_kind}
use Rattle.bd_model.specs.DesignView.{DesignView}
use Rattle.bd_model.specs.declared.case.Trail.{Trail}
use Rattle.bd_verify.specs.declared.verdict.Work.{Work}
use Rattle.bd_show.specs.Files.{AreStarted, Texts}
use Rattle.bd_model.specs.Limits.{most_cycles}
use Rattle.bd_model.specs.declared.case.TrailJudged.TheVariants as trail
use Rattle.bd_show.specs.Meaning.{BoundedCheck, IsRunShown, Says, bounded, run_finding}
use Rattle.bd_show.specs.Trails.{unstarted}
use Rattle.bd_show.specs.declared.show.Showing.{Showing}
use Rattle.bd_show.specs.declared.answer.Ended.{Ended}
use Rattle.bd_show.specs.declared.answer.Ended.TheVariants as ended
use Rattle.bd_show.specs.inner.Answered.{IsBreakingRun, IsOfRun, IsRunText, IsTrailKept, IsTrailSaved}
use Rattle.bd_show.proofs.Trails.{breaking}

-- the trail that is found breaks as a case too
pub run_breaks : (d e : DesignView) (cycles : ℕ) (r : Bounded) → e ≡ unstarted d → cycles ≤ most_cycles → SaysOfRuns d cycles r → IsBreakingRun e r
run_breaks d e cycles (Broken cycle t work) is few (over, judged) =
    (omega (arith, over.counted), breaking d e t (trail.Broken cycle) is judged cycle refl)
run_breaks d e cycles (Kept work) is few says = tt
run_breaks d e cycles (Undecided work) is few says = tt

checked : (q : BoundedCheck) (d e : DesignView) (r : Bounded) (x : Ended) (text : List ℕ) → e ≡ unstarted d → SaysOfRuns d q.cycles r → HasWorkIn d q.cycles q.mode q.budget r
    → x ≡ ended.Checked (run_finding r) → IsRunText q e r text → IsOfRun q d x text
checked q d e r x text is says work found t = subst (λ y. IsOfRun q d y text) (sym found) (record {
  answer = r;
  says = says;
  work = work;
  finding = refl;
  shown = t.shown;
  is_shown = subst (λ y. IsRunShown y r t.shown) is t.is_shown;
  lines = t.lines;
})

-- and the answer says so of the design
pub run_checked : (q : BoundedCheck) (d e : DesignView) (r : Bounded) (a : Result Showing AllocError) → e ≡ unstarted d → SaysOfRuns d q.cycles r → HasWorkIn d q.cycles q.mode q.budget r
    → IfOk a (λ x. x.answer.ended ≡ ended.Checked (run_finding r)) → IfOk a (λ x. IsRunText q e r x.answer.text.items) → IfOk a (λ x. IsOfRun q d x.answer.ended x.answer.text.items)
run_checked q d e r (Ok x) is says work found text = checked q d e r x.answer.ended x.answer.text.items is says work found text
run_checked q d e r (Err x) is says work found text = tt

-- and has the text of the trail
pub run_saved : (cycles : ℕ) (d : DesignView) (r : Bounded) (trail : Option (Vec ℕ Global)) (a : Result Showing AllocError) → IsTrailSaved cycles d (ended.Checked (run_finding r)) (bytes_of trail)
    → IfOk a (λ x. x.answer.ended ≡ ended.Checked (run_finding r)) → IfOk a (λ x. x.page ≡ trail) → IfOk a (λ x. IsTrailSaved cycles d x.answer.ended (bytes_of x.page))
run_saved cycles d r trail (Ok x) saved found page =
    subst (λ e. IsTrailSaved cycles d e (bytes_of x.page)) (sym found) (subst (λ (p : Option (Vec ℕ Global)). IsTrailSaved cycles d (ended.Checked (run_finding r)) (bytes_of p)) (sym page) saved)
run_saved cycles d r trail (Err x) saved found page = tt

-- ---- the text of the trail that breaks

pub broken_fits : (d : DesignView) (cycles : ℕ) (r : Bounded) (cycle : ℕ) (t : Trail) (work : Work) → r ≡ Broken cycle t work → cycles ≤ most_cycles → SaysOfRuns d cycles r → TrailFitsShort d t
broken_fits d cycles r cycle t work is few says =
    let over = (subst (SaysOfRuns d cycles) is says).0 in record { fits = over.fits; short = omega (arith, over.counted) }

pub broken_saved : (d : DesignView) (cycles : ℕ) (r : Bounded) (cycle : ℕ) (t : Trail) (work : Work) (bytes : List ℕ) → r ≡ Broken cycle t work → SaysOfRuns d cycles r → IsTextOf trail_kind d t bytes
    → IsTrailSaved cycles d (ended.Checked (run_finding r)) (Some bytes)
broken_saved d cycles r cycle t work bytes is says printed =
    let said = subst (SaysOfRuns d cycles) is says in
    subst (λ x. IsTrailSaved cycles d (ended.Checked (run_finding x)) (Some bytes)) (sym is) (record { breaking = t; over = said.0; cycle = cycle; is_judged = said.1; printed = printed })

-- ---- and so of the texts

says : (q : BoundedCheck) (t : Texts) (d : DesignView) (e : Ended) (text : List ℕ) → AreStarted t (Ok d) → IsOfRun q d e text → Says (bounded q) t e text
says q t d (ended.Checked found) text is said = (d, is, said)
says q t d _ text is said = absurd said

kept : (cycles : ℕ) (t : Texts) (d : DesignView) (e : Ended) (bytes : Option (List ℕ)) → AreStarted t (Ok d) → IsTrailSaved cycles d e bytes → IsTrailKept cycles t e bytes
kept cycles t d (ended.Checked (finding.Wrong k)) bytes is saved = (d, is, saved)
kept cycles t d _ bytes is saved = saved

pub run_says : (q : BoundedCheck) (t : Texts) (d : DesignView) (r : Result Showing AllocError) → AreStarted t (Ok d) → IfOk r (λ s. IsOfRun q d s.answer.ended s.answer.text.items)
    → IfOk r (λ s. Says (bounded q) t s.answer.ended s.answer.text.items)
run_says q t d r is said = IfOk-weaker r _ _ (λ s h. says q t d s.answer.ended s.answer.text.items is h) said

pub trail_kept : (cycles : ℕ) (t : Texts) (d : DesignView) (r : Result Showing AllocError) → AreStarted t (Ok d) → IfOk r (λ s. IsTrailSaved cycles d s.answer.ended (bytes_of s.page)) → IfOk r (λ s. IsTrailKept cycles t s.answer.ended (bytes_of s.page))
trail_kept cycles t d r is saved = IfOk-weaker r _ _ (λ s h. kept cycles t d s.answer.ended (bytes_of s.page) is h) saved
