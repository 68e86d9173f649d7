-- From the answer to a question to the run that prints it.
use Rattle.std.proofs.Common.{◌≡◌, ◌≢◌, ◌∙◌, ℕ, List, refl, sym, ap, subst, inl, inr}
use Rattle.std.specs.Prelude.{◌⊎◌, Option, Some, None, Result, Ok, Err, IfSome, IfOk, IfErr, IsErrAnd, IsErrOf}
use Rattle.bd_files.specs.Devices.{Held, Rose, Appends, AppendsPrefix, Counts}
use Rattle.bd_goal.specs.Laws.{Differs}
use Rattle.bd_model.specs.Conditions.{JudgedBy}
use Rattle.bd_model.specs.DesignView.{DesignView}
use Rattle.bd_model.specs.Fits.{Fits}
use Rattle.bd_model.specs.Right.{IsRight}
use Rattle.bd_model.specs.declared.case.Judged.TheVariants as judged
use Rattle.bd_verify.specs.declared.verdict.Question.TheVariants.{Breaks}
use Rattle.bd_verify.specs.declared.verdict.Work.{Work}
use Rattle.bd_verify.specs.declared.verdict.Verdict.{Verdict}
use Rattle.bd_verify.specs.declared.verdict.Verdict.TheVariants as verdict
use Rattle.bd_app.specs.Answer.{HasReport}
use Rattle.bd_bounded.specs.Answer.{HasWork, Says}
use Rattle.bd_bounded.specs.declared.answer.Bounded.{Bounded as BoundedAnswer}
use Rattle.bd_bounded.specs.declared.answer.Bounded.TheVariants as runs
use Rattle.bd_model.specs.Abstraction.{AbstractionView}
use Rattle.bd_completion.specs.Answer.{HasWork as HasWorkBy, Says as SaysBy}
use Rattle.bd_completion.specs.declared.answer.Complete.{Complete}
use Rattle.bd_completion.specs.declared.answer.Complete.TheVariants as completed
use Rattle.bd_app.specs.Bounded.{BoundedRun, bounded_meaning}
use Rattle.bd_app.specs.Complete.{Completion}
use Rattle.bd_app.specs.Completions.{CompletesTo, abstraction_by}
use Rattle.bd_app.specs.Commands.{Question, check, replay, run, gen, recheck, bounded, retrace, complete, meaning_of, taken}
use Rattle.bd_app.specs.Meaning.{Effects, FilesSeen, IsVerdictFor}
use Rattle.bd_app.specs.Program.{ForBounded, ForCompletion, ForDesign, ForVerdict, Headline, IsAnswered, SinkSeen}
use Rattle.bd_app.specs.Verdicts.{IsVerdict, ended_by}
use Rattle.bd_app.specs.declared.answer.Answer.{Answer}
use Rattle.bd_app.specs.declared.answer.Which.TheVariants as which
use Rattle.bd_app.specs.declared.answer.Ended.{Ended}
use Rattle.bd_app.specs.declared.answer.Ended.TheVariants.{Proved, Bounded, Completed, Usage, Device, Memory}
use Rattle.bd_app.specs.declared.fault.Fault.{Fault}
use Rattle.bd_app.specs.declared.fault.Fault.TheVariants as faults
use Rattle.bd_app.specs.declared.verdict.Asked.{Asked}
use Rattle.bd_app.specs.inner.Done.{IsDone, IsFault}
use Rattle.bd_app.specs.inner.Faults.{ended_by_fault, ended_of, words_fault}
use Rattle.bd_app.specs.declared.command.WordsFault.{WordsFault}
use Rattle.bd_app.specs.declared.command.WordsFault.TheVariants as words_faults
use Rattle.bd_app.proofs.Calls.{report_called}
use Rattle.bd_app.proofs.Effects.{memory_done, out_effects, unchanged}
use Rattle.bd_app.proofs.Faults.{fault_no_out, fault_silent, same_fault}
use Rattle.bd_app.proofs.Results.{IfSome-weaker}
use Rattle.bd_app.proofs.Verdicts.{no_bounded, no_completed, no_memory_verdict, no_proved, no_ran, no_replayed, no_retraced, no_usage_verdict, same_verdict, verdict_reports}

-- ---- what is promised of each command

-- its answers have reports
pub reports : (q : Question) (held : Option Held) (e : Ended) (report : List ℕ) → (meaning_of q).IsAnswer held e report → HasReport e
reports (check q) held e report is = subst HasReport (sym is.says.ended) (verdict_reports is.says.verdict)
reports (replay q) held e report is = subst HasReport (sym is.says.ended) tt
reports (run q) held e report is = subst HasReport (sym is.says.ended) tt
reports (gen q) held e report is = subst HasReport (sym is.says.ended) (verdict_reports is.says.verdict)
reports (recheck q) held e report is = subst HasReport (sym is.ended) tt
reports (bounded q) held e report is = subst HasReport (sym is.says.ended) tt
reports (retrace q) held e report is = subst HasReport (sym is.says.ended) tt
reports (complete q) held e report is = subst HasReport (sym is.says.ended) tt

-- an answer that is a verdict is one on its design
pub verdict_for : (q : Question) (held : Option Held) (v : Verdict) (report : List ℕ) → (meaning_of q).IsAnswer held (ended_by v) report → IsVerdictFor (meaning_of q) held v
verdict_for (check q) held v report is = record {
  asked = _;
  is_asked = refl;
  design = is.design;
  asks = is.asks;
  is_verdict = subst (λ w. IsVerdict is.design _ w) (sym (same_verdict v is.says.verdict is.says.ended)) is.says.is_verdict;
}
verdict_for (replay q) held v report is = absurd (no_replayed v is.says.judgement is.says.ended)
verdict_for (run q) held v report is = absurd (no_ran v is.says.ended)
verdict_for (gen q) held v report is = record {
  asked = _;
  is_asked = refl;
  design = is.design;
  asks = is.asks;
  is_verdict = subst (λ w. IsVerdict is.design _ w) (sym (same_verdict v is.says.verdict is.says.ended)) is.says.is_verdict;
}
verdict_for (recheck q) held v report is = absurd (no_proved v is.work is.ended)
verdict_for (bounded q) held v report is = absurd (no_bounded v is.says.answer is.says.ended)
verdict_for (retrace q) held v report is = absurd (no_retraced v is.says.judgement is.says.ended)
verdict_for (complete q) held v report is = absurd (no_completed v is.says.answer is.says.ended)

-- an answer that is a proof is one that its design is right
proved_right : (q : Question) (held : Option Held) (work : Work) (report : List ℕ) → (meaning_of q).IsAnswer held (Proved work) report → IfSome held (λ h. (d : DesignView) × (meaning_of q).Asks h d × IsRight d)
proved_right (check q) held work report is = absurd (no_proved is.says.verdict work (sym is.says.ended))
proved_right (replay q) held work report is = absurd (cc is.says.ended)
proved_right (run q) held work report is = absurd (cc is.says.ended)
proved_right (gen q) held work report is = absurd (no_proved is.says.verdict work (sym is.says.ended))
proved_right (recheck q) held work report is = IfSome-weaker _ _ held (λ h on. (on.design, on.denoted, on.says.right)) is.proves
proved_right (bounded q) held work report is = absurd (cc is.says.ended)
proved_right (retrace q) held work report is = absurd (cc is.says.ended)
proved_right (complete q) held work report is = absurd (cc is.says.ended)

-- an answer on a bounded run is one to a question on such a run, and true of its design
pub record IsRunOf (q : Question) (held : Option Held) (answer : BoundedAnswer) : Type 0 where
  pub question : BoundedRun
  pub is_asked : q ≡ bounded question
  pub design : DesignView
  pub asks : IfSome held (λ h. (bounded_meaning question).Asks h design)
  pub says : Says design question.cycles answer
  pub work : HasWork design question.cycles question.budget answer

pub run_for : (q : Question) (held : Option Held) (answer : BoundedAnswer) (report : List ℕ) → (meaning_of q).IsAnswer held (Bounded answer) report → IsRunOf q held answer
run_for (check q) held answer report is = absurd (no_bounded is.says.verdict answer (sym is.says.ended))
run_for (replay q) held answer report is = absurd (cc is.says.ended)
run_for (run q) held answer report is = absurd (cc is.says.ended)
run_for (gen q) held answer report is = absurd (no_bounded is.says.verdict answer (sym is.says.ended))
run_for (recheck q) held answer report is = absurd (cc is.ended)
run_for (bounded q) held answer report is =
    let same : is.says.answer ≡ answer = cc is.says.ended in
    record {
      question = q;
      is_asked = refl;
      design = is.design;
      asks = is.asks;
      says = subst (λ a. Says is.design q.cycles a) same is.says.says;
      work = subst (λ a. HasWork is.design q.cycles q.budget a) same is.says.work;
    }
run_for (retrace q) held answer report is = absurd (cc is.says.ended)
run_for (complete q) held answer report is = absurd (cc is.says.ended)

-- an answer on a completion function is one to a question on such a function, and true of it and its design
pub record IsCompletionOf (q : Question) (held : Option Held) (answer : Complete) : Type 0 where
  pub question : Completion
  pub is_asked : q ≡ complete question
  pub design : DesignView
  pub abs : AbstractionView
  pub asks : IfSome held (λ h. CompletesTo question.names h design abs)
  pub says : SaysBy design abs question.agree answer
  pub work : HasWorkBy design abs question.agree question.budget answer

pub completion_for : (q : Question) (held : Option Held) (answer : Complete) (report : List ℕ) → (meaning_of q).IsAnswer held (Completed answer) report → IsCompletionOf q held answer
completion_for (check q) held answer report is = absurd (no_completed is.says.verdict answer (sym is.says.ended))
completion_for (replay q) held answer report is = absurd (cc is.says.ended)
completion_for (run q) held answer report is = absurd (cc is.says.ended)
completion_for (gen q) held answer report is = absurd (no_completed is.says.verdict answer (sym is.says.ended))
completion_for (recheck q) held answer report is = absurd (cc is.ended)
completion_for (bounded q) held answer report is = absurd (cc is.says.ended)
completion_for (retrace q) held answer report is = absurd (cc is.says.ended)
completion_for (complete q) held answer report is =
    let same : is.says.answer ≡ answer = cc is.says.ended in
    record {
      question = q;
      is_asked = refl;
      design = is.design;
      abs = is.abs;
      asks = is.asks;
      says = subst (λ a. SaysBy is.design is.abs q.agree a) same is.says.says;
      work = subst (λ a. HasWorkBy is.design is.abs q.agree q.budget a) same is.says.work;
    }

-- ---- before anything is printed

pub done_report : (q : Question) (a b : FilesSeen) (r : Result Answer Fault) → IsDone (meaning_of q) a b r → IfOk r (λ x. HasReport x.ended)
done_report q a b (Ok x) is = reports q a.held x.ended x.report.items is.answer
done_report q a b (Err e) is = tt

pub done_no_usage : (q : Question) (a b : FilesSeen) (r : Result Answer Fault) → IsDone (meaning_of q) a b r → ended_of r ≢ Usage
done_no_usage q a b (Ok x) is same = subst HasReport same (reports q a.held x.ended x.report.items is.answer)
done_no_usage q a b (Err e) is same = subst (λ x. IsFault (meaning_of q) a.held x) (same_fault e faults.Usage same) is.fault

-- words that aren't read are faulty just so
pub not_taken : (r : Result Answer Fault) (e : WordsFault) → IsErrAnd r (λ y. y ≡ words_fault e) → ended_of r ≡ Usage → e ≡ words_faults.Usage
not_taken (Ok x) e h is = absurd h
not_taken (Err y) words_faults.Usage h is = refl
not_taken (Err y) words_faults.Memory h is = let memory : y ≡ faults.Memory = h in absurd (cc (sym (ap ended_by_fault memory) ∙ is))

-- words that aren't read have such a fault
pub words_fail : (r : Result Answer Fault) (e : WordsFault) → IsErrAnd r (λ y. y ≡ words_fault e) → IsErrOf r faults.Usage ⊎ IsErrOf r faults.Memory
words_fail (Ok x) e h = absurd h
words_fail (Err y) words_faults.Usage h = inl (ap (λ z. Err z) h)
words_fail (Err y) words_faults.Memory h = inr (ap (λ z. Err z) h)

-- and that of words that ask a question is that memory ran out
pub words_done : (words : List (List ℕ)) (r : Result Answer Fault) (e : WordsFault) (files : FilesSeen) → IsErrAnd r (λ y. y ≡ words_fault e) → (e ≡ words_faults.Usage → taken words ≡ None)
    → (q : Question) → taken words ≡ Some q → IsDone (meaning_of q) files files r
words_done words r words_faults.Usage files h usage q asks = let none = usage refl in absurd (cc (none, asks))
words_done words r words_faults.Memory files h usage q asks = memory_done (meaning_of q) files files r h (unchanged files)

-- words ask one question
pub done_for : (words : List (List ℕ)) (q : Question) (a b : FilesSeen) (r : Result Answer Fault) → taken words ≡ Some q → IsDone (meaning_of q) a b r → (p : Question) → taken words ≡ Some p
    → IsDone (meaning_of p) a b r
done_for words q a b r asks is p also = let same : q ≡ p = cc (asks, also) in subst (λ x. IsDone (meaning_of x) a b r) same is

-- ---- printing

-- the answer to a question that was put
pub answered : (P R : Type 0) (q : Question) (r : Result Answer Fault) (final : Ended) (a b : FilesSeen) (out out' : SinkSeen) → IfErr r (λ e. (final ≡ ended_by_fault e) × P)
    → IfOk r (λ x. ((final ≡ x.ended) × Appends out.written out'.written x.report.items) ⊎ ((final ≡ Device which.Out) × R × AppendsPrefix out.written out'.written x.report.items))
    → IfOk r (λ x. Counts out.puts out'.puts 1) → IsDone (meaning_of q) a b r → IsAnswered (meaning_of q) final a b out out'
answered P R q (Err e) final a b out out' failed put once done =
    let m = meaning_of q in
    record {
      refused = λ file offset code is. subst (λ x. IsFault m a.held x) (same_fault e (faults.Refused file offset code) (sym failed.0 ∙ is)) done.fault;
      bad_text = λ line column why cnf is. subst (λ x. IsFault m a.held x) (same_fault e (faults.BadText line column why cnf) (sym failed.0 ∙ is)) done.fault;
      printed = λ reported. absurd (fault_silent e (subst HasReport failed.0 reported));
      cut = λ is. absurd (fault_no_out e (sym failed.0 ∙ is));
      effects = subst (λ x. Effects m a b x) (sym failed.0) done.effects;
    }
answered P R q (Ok x) final a b out out' failed put once done =
    let m = meaning_of q in
    let reported : HasReport x.ended = reports q a.held x.ended x.report.items done.answer in
    elim put [
      | inl h ↦ record {
        refused = λ file offset code is. absurd (subst HasReport (sym h.0 ∙ is) reported);
        bad_text = λ line column why cnf is. absurd (subst HasReport (sym h.0 ∙ is) reported);
        printed = λ _. (x.report.items, h.1, once, subst (λ e. m.IsAnswer a.held e x.report.items) (sym h.0) done.answer);
        cut = λ is. absurd (subst HasReport (sym h.0 ∙ is) reported);
        effects = subst (λ e. Effects m a b e) (sym h.0) done.effects;
      }
      | inr h ↦ record {
        refused = λ file offset code is. absurd (cc (h.0, is));
        bad_text = λ line column why cnf is. absurd (cc (h.0, is));
        printed = λ has. absurd (subst HasReport h.0 has);
        cut = λ is. (x.ended, x.report.items, h.2, once, done.answer, done.effects.saved, report_called m a b x.ended reported done.effects.called);
        effects = subst (λ e. Effects m a b e) (sym h.0) (out_effects m a b x.ended x.report.items reported done.answer done.effects);
      }
    ]

-- the output's fault comes of its count
pub out_rises : (P : Type 0) (o n : ℕ) (r : Result Answer Fault) (final : Ended) (w w' : Option (List ℕ)) → IfErr r (λ e. (final ≡ ended_by_fault e) × P)
    → IfOk r (λ x. ((final ≡ x.ended) × Appends w w' x.report.items) ⊎ ((final ≡ Device which.Out) × Rose o n × AppendsPrefix w w' x.report.items)) → IfOk r (λ x. HasReport x.ended) → final ≡ Device which.Out
    → Rose o n
out_rises P o n (Err e) final w w' failed put report is = absurd (fault_no_out e (sym failed.0 ∙ is))
out_rises P o n (Ok x) final w w' failed put report is = elim put [ inl h ↦ absurd (subst HasReport (sym h.0 ∙ is) report) | inr h ↦ h.1 ]

-- a report is put once
pub put_once : (P : Type 0) (C : Type 0) (r : Result Answer Fault) (final : Ended) → IfErr r (λ e. (final ≡ ended_by_fault e) × P) → IfOk r (λ x. C) → (HasReport final) ⊎ (final ≡ Device which.Out) → C
put_once P C (Ok x) final failed once either = once
put_once P C (Err e) final failed once either = elim either [
  | inl reported ↦ absurd (fault_silent e (subst HasReport failed.0 reported))
  | inr is ↦ absurd (fault_no_out e (sym failed.0 ∙ is))
]

-- what has no report prints nothing, but for a failing output
pub silent : (P R : Type 0) (r : Result Answer Fault) (final : Ended) (w w' : Option (List ℕ)) → IfErr r (λ e. (final ≡ ended_by_fault e) × P)
    → IfOk r (λ x. ((final ≡ x.ended) × Appends w w' x.report.items) ⊎ ((final ≡ Device which.Out) × R × AppendsPrefix w w' x.report.items)) → IfOk r (λ x. HasReport x.ended)
    → ¬ HasReport final → final ≢ Device which.Out → P
silent P R (Err e) final w w' failed put report quiet other = failed.1
silent P R (Ok x) final w w' failed put report quiet other = elim put [ inl h ↦ absurd (quiet (subst HasReport (sym h.0) report)) | inr h ↦ absurd (other h.0) ]

-- an answer other than the output's fault was there before it was printed
pub before_out : (P R : Type 0) (r : Result Answer Fault) (final : Ended) (w w' : Option (List ℕ)) → IfErr r (λ e. (final ≡ ended_by_fault e) × P)
    → IfOk r (λ x. ((final ≡ x.ended) × Appends w w' x.report.items) ⊎ ((final ≡ Device which.Out) × R × AppendsPrefix w w' x.report.items))
    → (e : Ended) → e ≢ Device which.Out → final ≡ e → ended_of r ≡ e
before_out P R (Err f) final w w' failed put e other is = sym failed.0 ∙ is
before_out P R (Ok x) final w w' failed put e other is = elim put [ inl h ↦ sym h.0 ∙ is | inr h ↦ absurd (other (sym is ∙ h.0)) ]

-- words that aren't taken
pub untaken : (P R : Type 0) (r : Result Answer Fault) (final : Ended) (w w' : Option (List ℕ)) → IfErr r (λ e. (final ≡ ended_by_fault e) × P)
    → IfOk r (λ x. ((final ≡ x.ended) × Appends w w' x.report.items) ⊎ ((final ≡ Device which.Out) × R × AppendsPrefix w w' x.report.items))
    → IsErrOf r faults.Usage ⊎ IsErrOf r faults.Memory → (final ≡ Usage) ⊎ (final ≡ Memory)
untaken P R (Err f) final w w' failed put either = elim either [
  | inl h ↦ let usage : f ≡ faults.Usage = cc h in inl (failed.0 ∙ ap ended_by_fault usage)
  | inr h ↦ let memory : f ≡ faults.Memory = cc h in inr (failed.0 ∙ ap ended_by_fault memory)
]
untaken P R (Ok x) final w w' failed put either = elim either [ inl h ↦ absurd (cc h) | inr h ↦ absurd (cc h) ]

-- ---- the headline

module _ (words : List (List ℕ)) (final : Ended) (a b : FilesSeen) (out out' : SinkSeen) (usage : taken words ≡ None → (final ≡ Usage) ⊎ (final ≡ Memory))
    (answers : (q : Question) → taken words ≡ Some q → IsAnswered (meaning_of q) final a b out out') where
  -- the question that a verdict answers
  asked_for : (v : Verdict) (o : Option Question) → taken words ≡ o → final ≡ ended_by v → (q : Question) × (taken words ≡ Some q) × IsVerdictFor (meaning_of q) a.held v
  asked_for v None asks is = elim (usage asks) [ inl h ↦ absurd (no_usage_verdict v (sym is ∙ h)) | inr h ↦ absurd (no_memory_verdict v (sym is ∙ h)) ]
  asked_for v (Some q) asks is =
      let printed = (answers q asks).printed (subst HasReport (sym is) (verdict_reports v)) in
      (q, asks, verdict_for q a.held v printed.0 (subst (λ e. (meaning_of q).IsAnswer a.held e printed.0) is printed.3))

  for_proof : (work : Work) (o : Option Question) → taken words ≡ o → final ≡ Proved work → ForDesign a.held words IsRight
  for_proof work None asks is = elim (usage asks) [ inl h ↦ absurd (cc (is, h)) | inr h ↦ absurd (cc (is, h)) ]
  for_proof work (Some q) asks is =
      let printed = (answers q asks).printed (subst HasReport (sym is) tt) in
      (q, asks, proved_right q a.held work printed.0 (subst (λ e. (meaning_of q).IsAnswer a.held e printed.0) is printed.3))

  for_run : (answer : BoundedAnswer) (P : BoundedRun → DesignView → Type 0) (o : Option Question) → taken words ≡ o → final ≡ Bounded answer
      → ((q : BoundedRun) (d : DesignView) → Says d q.cycles answer → HasWork d q.cycles q.budget answer → P q d) → ForBounded a.held words P
  for_run answer P None asks is f = elim (usage asks) [ inl h ↦ absurd (cc (is, h)) | inr h ↦ absurd (cc (is, h)) ]
  for_run answer P (Some q) asks is f =
      let printed = (answers q asks).printed (subst HasReport (sym is) tt) in
      let found = run_for q a.held answer printed.0 (subst (λ e. (meaning_of q).IsAnswer a.held e printed.0) is printed.3) in
      (found.question, asks ∙ ap Some found.is_asked, IfSome-weaker _ _ a.held (λ h asked. (found.design, asked, f found.question found.design found.says found.work)) found.asks)

  for_completion : (answer : Complete) (P : Completion → DesignView → AbstractionView → Type 0) (o : Option Question) → taken words ≡ o → final ≡ Completed answer
      → ((q : Completion) (d : DesignView) (abs : AbstractionView) → SaysBy d abs q.agree answer → HasWorkBy d abs q.agree q.budget answer → P q d abs) → ForCompletion a.held words P
  for_completion answer P None asks is f = elim (usage asks) [ inl h ↦ absurd (cc (is, h)) | inr h ↦ absurd (cc (is, h)) ]
  for_completion answer P (Some q) asks is f =
      let printed = (answers q asks).printed (subst HasReport (sym is) tt) in
      let found = completion_for q a.held answer printed.0 (subst (λ e. (meaning_of q).IsAnswer a.held e printed.0) is printed.3) in
      (found.question, asks ∙ ap Some found.is_asked, IfSome-weaker _ _ a.held (λ h asked. (found.design, found.abs, asked, f found.question found.design found.abs found.says found.work)) found.asks)

  for_verdict : (v : Verdict) (P : Asked → DesignView → Type 0) → final ≡ ended_by v → ((asked : Asked) (d : DesignView) → IsVerdict d asked v → P asked d) → ForVerdict a.held words P
  for_verdict v P is f =
      let found = asked_for v (taken words) refl is in
      let verdict = found.2 in
      (found.0, found.1, verdict.asked, verdict.is_asked, IfSome-weaker _ _ a.held (λ h asks. (verdict.design, asks, f verdict.asked verdict.design verdict.is_verdict)) verdict.asks)

  for_design : (v : Verdict) (P : DesignView → Type 0) → final ≡ ended_by v → ((asked : Asked) (d : DesignView) → IsVerdict d asked v → P d) → ForDesign a.held words P
  for_design v P is f =
      let found = asked_for v (taken words) refl is in
      let verdict = found.2 in
      (found.0, found.1, IfSome-weaker _ _ a.held (λ h asks. (verdict.design, asks, f verdict.asked verdict.design verdict.is_verdict)) verdict.asks)

  pub headline : Headline a.held words final
  headline = record {
    correct = λ c work is. for_design (verdict.Correct c work) _ is (λ asked d v. v.is_true.0);
    wrong = λ k c work is. for_design (verdict.Wrong k c work) _ is (λ asked d v. v.is_true);
    void = λ work is. for_design (verdict.Void work) _ is (λ asked d v. v.is_true);
    proved = λ work is. for_proof work (taken words) refl is;
    kept = λ work is. for_run (runs.Kept work) _ (taken words) refl is (λ q d says work. says);
    broken = λ cycle t work is. for_run (runs.Broken cycle t work) _ (taken words) refl is (λ q d says work. (says.0.fits, says.1));
    bounded_work = λ answer is. for_run answer _ (taken words) refl is (λ q d says work. work);
    right_by = λ work is. for_completion (completed.Right work) _ (taken words) refl is (λ q d abs says work. says.1);
    wrong_by = λ k c work is. for_completion (completed.Wrong k c work) (λ q d abs. Fits d c × JudgedBy d (abstraction_by d abs) c (judged.Broken k)) (taken words) refl is (λ q d abs says work. (says.1, says.2));
    agrees = λ work is. for_completion (completed.Agree work) _ (taken words) refl is (λ q d abs says work. says.1);
    differs = λ c work is. for_completion (completed.Differ c work) (λ q d abs. Fits d c × Differs d (abstraction_by d abs) c) (taken words) refl is (λ q d abs says work. (says.1, says.2));
    completion_work = λ answer is. for_completion answer _ (taken words) refl is (λ q d abs says work. work);
    holds = λ c work is. for_design (verdict.Correct (Some c) work) _ is (λ asked d v. v.is_true.1);
    undecided = λ work is. for_verdict (verdict.Undecided Breaks work) _ is (λ asked d v. v.is_true);
    may_give = λ v is. for_verdict v _ is (λ asked d v. v.may_give);
    work = λ v is. for_verdict v _ is (λ asked d v. v.work);
  }
