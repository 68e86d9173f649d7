-- What answers leave of the files.
use Rattle.std.proofs.Common.{◌≡◌, ◌≢◌, ◌≤◌, ◌∙◌, ℕ, List, [], ◌++◌, refl, sym, subst, ap, inl, inr, arith}
use Rattle.std.specs.Prelude.{Option, None, Result, Ok, Err, IfSome, IsErrAnd}
use Rattle.bd_files.specs.Devices.{Held}
use Rattle.bd_verify.specs.declared.verdict.Verdict.{Verdict}
use Rattle.bd_verify.specs.declared.verdict.Work.{Work}
use Rattle.bd_app.specs.Answer.{HasReport, SavesNothing}
use Rattle.bd_app.specs.Files.{AreSaved, AreSavedUpTo, AreShort, File, IsEither, KeepsAllBut, loads, saves}
use Rattle.bd_app.specs.Meaning.{Called, Effects, FilesSeen, IsCalled, IsVerdictFor, Meaning}
use Rattle.bd_app.specs.Verdicts.{ended_by, work_of}
use Rattle.bd_app.specs.declared.answer.Answer.{Answer}
use Rattle.bd_app.specs.declared.answer.Which.{Which}
use Rattle.bd_app.specs.declared.answer.Which.TheVariants as which
use Rattle.bd_app.specs.declared.answer.Ended.{Ended}
use Rattle.bd_app.specs.declared.answer.Ended.TheVariants as ended
use Rattle.bd_app.specs.declared.fault.Fault.{Fault}
use Rattle.bd_app.specs.declared.fault.Fault.TheVariants.{Refused, BadText, Load, Save, Memory}
use Rattle.bd_app.specs.inner.Done.{IsDone, IsFault}
use Rattle.bd_app.specs.inner.Faults.{ended_by_fault}
use Rattle.bd_app.specs.inner.Loaded.{IsLoadFault, Loads}
use Rattle.bd_app.specs.inner.Saved.{IsSaveFault, Saves}
use Rattle.bd_files.proofs.Called.{makes_none}
use Rattle.bd_app.proofs.Calls.{called_none, called_report, called_then, called_whole, load_called, loads_called, report_called, save_called, verdict_called}
use Rattle.bd_app.proofs.Faults.{fault_no_verdict, same_fault}
use Rattle.bd_app.proofs.Results.{IfSome-both, IfSome-weaker, no_error, passed, rose_after}
use Rattle.bd_app.proofs.Saves.{keeps_same}
use Rattle.bd_app.proofs.Verdicts.{no_device, no_verdict, same_verdict, verdict_reports, verdict_saves}

-- ---- nothing happened but reading

-- after loads of some files they stand, but for the count of their faults
pub record Stand (files : List File) (before after : FilesSeen) : Type 0 where
  pub held : after.held ≡ before.held
  pub blame : after.blame ≡ before.blame
  pub never_falls : before.faults ≤ after.faults
  pub called : Called before after (loads files)

pub unchanged : (files : FilesSeen) → Stand [] files files
unchanged files = record { held = refl; blame = refl; never_falls = omega arith; called = makes_none files.calls }

-- files that were loaded stand
pub loaded_stand : {T : Type 0} {files : _} {a b : FilesSeen} {x : T} → Loads files a b (Ok x) → Stand files a b
loaded_stand {T} {files} {a} {b} {x} l = record { held = l.held; blame = l.else_keeps_blame (no_error x _); never_falls = l.never_falls; called = l.called }

-- an answer that is no fault of a device, and no verdict
pub record IsQuiet (e : Ended) : Type 0 where
  pub no_device : (w : Which) → e ≢ ended.Device w
  pub no_verdict : (v : Verdict) → e ≢ ended_by v

-- such an answer that has a report
pub record IsPlain (e : Ended) : Type 0 where
  pub quiet : IsQuiet e
  pub reported : HasReport e

quiet_effects : {files : List File} (m : Meaning) (a b : FilesSeen) (e : Ended) → Stand files a b → IsQuiet e → IsCalled m a b e → Effects m a b e
quiet_effects {files} m a b e stand quiet called = record {
  load_rose = λ is. absurd (quiet.no_device _ is);
  load_blamed = λ is. absurd (quiet.no_device _ is);
  save_rose = λ is. absurd (quiet.no_device _ is);
  save_blamed = λ is. absurd (quiet.no_device _ is);
  else_keeps_blame = λ load save. stand.blame;
  saved = λ v is. absurd (quiet.no_verdict v is);
  save_failed = λ is. absurd (quiet.no_device _ is);
  others = keeps_same a.held b.held _ stand.held;
  held = λ nothing. stand.held;
  never_falls = stand.never_falls;
  called = called;
}

-- ---- a load failed

load_no_save : (held : Option Held) (files : _) (e : Fault) → IsLoadFault held files e → ended_by_fault e ≢ ended.Device which.Save
load_no_save held files e fault is = subst (λ x. IsLoadFault held files x) (same_fault e Save is) fault

load_is_fault : (m : Meaning) (held : Option Held) (e : Fault) → IsLoadFault held m.files e → IsFault m held e
load_is_fault m held (Refused file offset code) fault = IfSome-weaker _ _ held (λ h long. inl long) fault
load_is_fault m held Load fault = tt
load_is_fault m held Memory fault = tt
load_is_fault m held _ fault = absurd fault

load_effects : {T : Type 0} (m : Meaning) (a b : FilesSeen) (e : Fault) → Loads {T = T} m.files a b (Err e) → Effects m a b (ended_by_fault e)
load_effects m a b e l = record {
  load_rose = λ is. l.rose (ap (λ x. Err x) (same_fault e Load is));
  load_blamed = λ is. l.blamed (ap (λ x. Err x) (same_fault e Load is));
  save_rose = λ is. absurd (load_no_save a.held m.files e l.fault is);
  save_blamed = λ is. absurd (load_no_save a.held m.files e l.fault is);
  else_keeps_blame = λ load save. l.else_keeps_blame (λ is. let same : e ≡ Load = cc is in load (ap ended_by_fault same));
  saved = λ v is. absurd (fault_no_verdict e v is);
  save_failed = λ is. absurd (load_no_save a.held m.files e l.fault is);
  others = keeps_same a.held b.held _ l.held;
  held = λ nothing. l.held;
  never_falls = l.never_falls;
  called = load_called m a b (ended_by_fault e) l.called_up_to;
}

pub load_failed : {T : Type 0} (m : Meaning) (a b : FilesSeen) (e : Fault) (r : Result Answer Fault) → IsErrAnd r (λ y. y ≡ e) → Loads {T = T} m.files a b (Err e) → IsDone m a b r
load_failed {T} m a b e r is l = passed (λ z. IsDone m a b z) r e is (record { answer = tt; fault = load_is_fault m a.held e l.fault; effects = load_effects {T = T} m a b e l })

-- ---- texts have a fault

-- why texts are refused, where no file is too long
abbrev pub AreTextsRefused : Meaning → Option Held → Fault → Type 0
AreTextsRefused m held (Refused file offset code) = IfSome held (λ h. m.IsTextFault h file offset code)
AreTextsRefused m held (BadText line column why cnf) = IfSome held (λ h. m.IsProofFault h line column why cnf)
AreTextsRefused m held Memory = Unit {0}
AreTextsRefused m held _ = ⊥

texts_quiet : (m : Meaning) (held : Option Held) (e : Fault) → AreTextsRefused m held e → IsQuiet (ended_by_fault e)
texts_quiet m held (Refused file offset code) fault = record { no_device = λ w is. cc is; no_verdict = fault_no_verdict (Refused file offset code) }
texts_quiet m held (BadText line column why cnf) fault = record { no_device = λ w is. cc is; no_verdict = fault_no_verdict (BadText line column why cnf) }
texts_quiet m held Memory fault = record { no_device = λ w is. cc is; no_verdict = fault_no_verdict Memory }
texts_quiet m held _ fault = absurd fault

texts_fault : (m : Meaning) (held : Option Held) (e : Fault) → IfSome held (λ h. AreShort h m.files) → AreTextsRefused m held e → IsFault m held e
texts_fault m held (Refused file offset code) short fault = IfSome-both _ _ _ held (λ h s f. inr (s, f)) short fault
texts_fault m held (BadText line column why cnf) short fault = IfSome-both _ _ _ held (λ h s f. (s, f)) short fault
texts_fault m held Memory short fault = tt
texts_fault m held _ short fault = absurd fault

texts_called : (m : Meaning) (a b : FilesSeen) (e : Fault) → IfSome a.held (λ h. AreShort h m.files) → Called a b (loads m.files) → AreTextsRefused m a.held e → IsCalled m a b (ended_by_fault e)
texts_called m a b (Refused file offset code) short called fault = inr (short, called)
texts_called m a b (BadText line column why cnf) short called fault = loads_called m a b (ended.BadText line column why cnf) (fault_no_verdict (BadText line column why cnf)) called
texts_called m a b Memory short called fault = inl (called_whole a b (loads m.files) called)
texts_called m a b _ short called fault = absurd fault

pub texts_refused : (m : Meaning) (a b : FilesSeen) (e : Fault) → Stand m.files a b → IfSome a.held (λ h. AreShort h m.files) → AreTextsRefused m a.held e → IsDone m a b (Err e)
texts_refused m a b e stand short fault =
    record { answer = tt; fault = texts_fault m a.held e short fault; effects = quiet_effects m a b (ended_by_fault e) stand (texts_quiet m a.held e fault) (texts_called m a b e short stand.called fault) }

-- memory runs out before the first load
pub memory_done : (m : Meaning) (a b : FilesSeen) (r : Result Answer Fault) → IsErrAnd r (λ y. y ≡ Memory) → Stand [] a b → IsDone m a b r
memory_done m a b r is stand = passed (λ z. IsDone m a b z) r Memory is (record {
  answer = tt;
  fault = tt;
  effects = quiet_effects m a b ended.Memory stand (record { no_device = λ w is. cc is; no_verdict = fault_no_verdict Memory }) (inl (called_none a b (loads m.files) stand.called));
})

-- an answer that is no verdict
pub quiet_done : (m : Meaning) (a b : FilesSeen) (answer : Answer) → Stand m.files a b → IsPlain answer.ended → m.IsAnswer a.held answer.ended answer.report.items → IsDone m a b (Ok answer)
quiet_done m a b answer stand plain is =
    let called = called_report m a b answer.ended plain.reported (loads_called m a b answer.ended plain.quiet.no_verdict stand.called) in
    record { answer = is; fault = tt; effects = quiet_effects m a b answer.ended stand plain.quiet called }

-- ---- verdicts

-- a verdict's answer, after its work was saved
pub verdict_done : (m : Meaning) (a b : FilesSeen) (v : Verdict) (answer : Answer) → answer.ended ≡ ended_by v → m.IsAnswer a.held answer.ended answer.report.items → AreSaved b.held m.cnf m.lrat (work_of v)
    → KeepsAllBut a.held b.held (IsEither m.cnf m.lrat) → b.blame ≡ a.blame → a.faults ≤ b.faults → Called a b (loads m.files ++ saves m.cnf m.lrat (work_of v)) → IsDone m a b (Ok answer)
verdict_done m a b v answer is says saved others blame rises called =
    let other : (w : Which) → answer.ended ≢ ended.Device w = λ w. no_device answer.ended w (subst HasReport (sym is) (verdict_reports v)) in
    record {
      answer = says;
      fault = tt;
      effects = record {
        load_rose = λ same. absurd (other _ same);
        load_blamed = λ same. absurd (other _ same);
        save_rose = λ same. absurd (other _ same);
        save_blamed = λ same. absurd (other _ same);
        else_keeps_blame = λ load save. blame;
        saved = λ w same. subst (λ x. AreSaved b.held m.cnf m.lrat (work_of x)) (same_verdict v w (sym is ∙ same)) saved;
        save_failed = λ same. absurd (other _ same);
        others = others;
        held = λ nothing. absurd (verdict_saves v (subst SavesNothing is nothing));
        never_falls = rises;
        called = subst (λ e. IsCalled m a b e) (sym is) (verdict_called m a b v called);
      };
    }

save_no_load : (e : Fault) → IsSaveFault e → ended_by_fault e ≢ ended.Device which.Load
save_no_load e fault is = subst IsSaveFault (same_fault e Load is) fault

save_is_fault : (m : Meaning) (held : Option Held) (e : Fault) → IsSaveFault e → IsFault m held e
save_is_fault m held Save fault = tt
save_is_fault m held Memory fault = tt
save_is_fault m held _ fault = absurd fault

save_changes : (e : Fault) → IsSaveFault e → ¬ SavesNothing (ended_by_fault e)
save_changes Save fault = λ h. h
save_changes Memory fault = λ h. h
save_changes _ fault = absurd fault

-- the work of a verdict wasn't saved
pub save_failed : {T : Type 0} (m : Meaning) (a b c : FilesSeen) (v : Verdict) (e : Fault) (r : Result Answer Fault) → IsErrAnd r (λ y. y ≡ e) → Stand m.files a b → IsVerdictFor m a.held v
    → Saves {T = T} m.cnf m.lrat (work_of v) b c (Err e) → IsDone m a c r
save_failed m a b c v e r is stand verdict s = passed (λ z. IsDone m a c z) r e is (record {
  answer = tt;
  fault = save_is_fault m a.held e s.fault;
  effects = record {
    load_rose = λ same. absurd (save_no_load e s.fault same);
    load_blamed = λ same. absurd (save_no_load e s.fault same);
    save_rose = λ same. rose_after a.faults b.faults c.faults stand.never_falls s.never_falls (s.rose (ap (λ x. Err x) (same_fault e Save same)));
    save_blamed = λ same. s.blamed (ap (λ x. Err x) (same_fault e Save same));
    else_keeps_blame = λ load save. s.else_keeps_blame (λ is. let same : e ≡ Save = cc is in save (ap ended_by_fault same)) ∙ stand.blame;
    saved = λ w same. absurd (fault_no_verdict e w same);
    save_failed = λ same. record {
      verdict = v;
      is_verdict = verdict;
      up_to = subst (λ h. AreSavedUpTo h c.held c.blame m.cnf m.lrat (work_of v)) stand.held (s.up_to (ap (λ x. Err x) (same_fault e Save same)));
    };
    others = subst (λ h. KeepsAllBut h c.held (IsEither m.cnf m.lrat)) stand.held s.others;
    held = λ nothing. absurd (save_changes e s.fault nothing);
    never_falls = omega (arith, stand.never_falls, s.never_falls);
    called = save_called m a b c v e s.fault stand.called verdict (λ same. s.called_up_to (ap (λ x. Err x) same)) (λ same. s.called_first (ap (λ x. Err x) same));
  };
})

-- it was saved, and then memory ran out
pub memory_after : {T : Type 0} (m : Meaning) (a b c : FilesSeen) (x : T) (v : Verdict) (r : Result Answer Fault) → IsErrAnd r (λ y. y ≡ Memory) → Stand m.files a b → IsVerdictFor m a.held v
    → Saves m.cnf m.lrat (work_of v) b c (Ok x) → IsDone m a c r
memory_after m a b c x v r is stand verdict s = passed (λ z. IsDone m a c z) r Memory is (record {
  answer = tt;
  fault = tt;
  effects = record {
    load_rose = λ same. absurd (cc same);
    load_blamed = λ same. absurd (cc same);
    save_rose = λ same. absurd (cc same);
    save_blamed = λ same. absurd (cc same);
    else_keeps_blame = λ load save. s.else_keeps_blame (no_error x _) ∙ stand.blame;
    saved = λ w same. absurd (fault_no_verdict Memory w same);
    save_failed = λ same. absurd (cc same);
    others = subst (λ h. KeepsAllBut h c.held (IsEither m.cnf m.lrat)) stand.held s.others;
    held = λ nothing. absurd nothing;
    never_falls = omega (arith, stand.never_falls, s.never_falls);
    called = inr (v, verdict, called_whole a c (loads m.files ++ saves m.cnf m.lrat (work_of v)) (called_then a b c (loads m.files) (saves m.cnf m.lrat (work_of v)) stand.called s.called));
  };
})

-- where no name is given, all is saved
pub none_saved : (after : Option Held) (work : Work) → AreSaved after None None work
none_saved after work = record { formula = λ name is other. absurd (cc is); proof = λ name is. absurd (cc is) }

-- ---- the output failed

-- what stood before the report was printed stands
pub out_effects : (m : Meaning) (a b : FilesSeen) (e : Ended) (report : List ℕ) → HasReport e → m.IsAnswer a.held e report → Effects m a b e → Effects m a b (ended.Device which.Out)
out_effects m a b e report reported is effects = record {
  load_rose = λ same. absurd (cc same);
  load_blamed = λ same. absurd (cc same);
  save_rose = λ same. absurd (cc same);
  save_blamed = λ same. absurd (cc same);
  else_keeps_blame = λ load save. effects.else_keeps_blame (no_device e _ reported) (no_device e _ reported);
  saved = λ v same. absurd (no_verdict (ended.Device which.Out) v (λ h. h) same);
  save_failed = λ same. absurd (cc same);
  others = effects.others;
  held = λ nothing. absurd nothing;
  never_falls = effects.never_falls;
  called = (e, report, is, report_called m a b e reported effects.called);
}
