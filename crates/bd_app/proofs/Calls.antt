-- Which calls were made on files, after loads and saves one after another.
use Rattle.std.proofs.Common.{◌≡◌, ◌∙◌, List, [], ◌∷◌, ◌++◌, refl, sym, subst, ap, inl, inr, append-nil, append_assoc}
use Rattle.std.specs.Prelude.{Option, Some, None, Result, Ok, Err, IfSome, OnOk, IfErr, IsErrOf}
use Rattle.std.proofs.lemmas.List.{map-append}
use Rattle.bd_cnf.specs.Problem.{dimacs}
use Rattle.bd_files.specs.Devices.{Call, Held, loading, saving}
use Rattle.bd_files.specs.declared.devices.FileCall.TheVariants as call
use Rattle.bd_files.proofs.Called.{makes_then}
use Rattle.bd_lrat.specs.Text.{lrat as lrat_text}
use Rattle.bd_verify.specs.declared.verdict.Verdict.{Verdict}
use Rattle.bd_verify.specs.declared.verdict.Verdict.TheVariants as verdict
use Rattle.bd_verify.specs.declared.verdict.Work.{Work}
use Rattle.bd_app.specs.Answer.{HasReport}
use Rattle.bd_app.specs.Files.{AreShort, File, IsLong, IsShort, loads, most_bytes, save_if, saves}
use Rattle.bd_app.specs.Meaning.{Called, CalledAll, CalledFirst, FilesSeen, IsCalled, IsVerdictFor, LoadedUpTo, LoadsFail, Meaning, SavedUpTo, saves_of}
use Rattle.bd_app.specs.Verdicts.{ended_by, work_of}
use Rattle.bd_app.specs.Words.{Name}
use Rattle.bd_app.specs.declared.answer.Which.TheVariants as which
use Rattle.bd_app.specs.declared.answer.Ended.{Ended}
use Rattle.bd_app.specs.declared.answer.Ended.TheVariants.{Correct, Wrong, Void, Undecided, Replayed, Ran, Proved, Bounded, Retraced, Completed, Refused, Device, Memory}
use Rattle.bd_app.specs.declared.fault.Fault.{Fault}
use Rattle.bd_app.specs.declared.fault.Fault.TheVariants as faults
use Rattle.bd_app.specs.inner.Faults.{ended_by_fault}
use Rattle.bd_app.specs.inner.Saved.{IsSaveFault}
use Rattle.bd_app.proofs.Results.{IfSome-all, IfSome-both, no_error}

-- ---- some of several calls

-- all of them
pub called_whole : (a b : FilesSeen) (calls : List Call) → Called a b calls → CalledFirst a b calls
called_whole a b calls called = record { first = calls; rest = []; order = sym (append-nil calls); called = called }

-- none of them
pub called_none : (a b : FilesSeen) (calls : List Call) → Called a b [] → CalledFirst a b calls
called_none a b calls called = record { first = []; rest = calls; order = refl; called = called }

-- where more are to come
pub first_before : (a b : FilesSeen) (calls more : List Call) → CalledFirst a b calls → CalledFirst a b (calls ++ more)
first_before a b calls more f = record {
  first = f.first;
  rest = f.rest ++ more;
  order = ap (λ cs. cs ++ more) f.order ∙ append_assoc f.first f.rest more;
  called = f.called;
}

-- after others
pub first_after : (a b c : FilesSeen) (calls more : List Call) → Called a b calls → CalledFirst b c more → CalledFirst a c (calls ++ more)
first_after a b c calls more one f = record {
  first = calls ++ f.first;
  rest = f.rest;
  order = ap (λ cs. calls ++ cs) f.order ∙ sym (append_assoc calls f.first f.rest);
  called = makes_then a.calls b.calls c.calls calls f.first one f.called;
}

pub called_then : (a b c : FilesSeen) (calls more : List Call) → Called a b calls → Called b c more → Called a c (calls ++ more)
called_then a b c calls more one two = makes_then a.calls b.calls c.calls calls more one two

-- ---- loads

-- the one file that is loaded
pub one_load : (a b : FilesSeen) (file : File) → Called a b (loads (file ∷ [])) → LoadedUpTo a b (file ∷ []) file
one_load a b file called = record { first = []; rest = []; order = refl; short = IfSome-all _ a.held (λ h. tt); called = called }

pub up_before : {a b : FilesSeen} {files : List File} {file : File} (more : List File) → LoadedUpTo a b files file → LoadedUpTo a b (files ++ more) file
up_before {a} {b} {files} {file} more up = record {
  first = up.first;
  rest = up.rest ++ more;
  order = ap (λ fs. fs ++ more) up.order ∙ append_assoc up.first (file ∷ up.rest) more;
  short = up.short;
  called = up.called;
}

pub up_after : (a b c : FilesSeen) (files : List File) (last file : File) → IfSome a.held (λ h. IsShort h file) → b.held ≡ a.held → Called a b (loads (file ∷ [])) → LoadedUpTo b c files last
    → LoadedUpTo a c (file ∷ files) last
up_after a b c files last file short same one up = record {
  first = file ∷ up.first;
  rest = up.rest;
  order = ap (λ fs. file ∷ fs) up.order;
  short = IfSome-both _ _ _ a.held (λ h s others. (s, others)) short (subst (λ o. IfSome o (λ h. AreShort h up.first)) same up.short);
  called = makes_then a.calls b.calls c.calls (loads (file ∷ [])) (loads (up.first ++ last ∷ [])) one up.called;
}

pub short_both : (h : Held) (some more : List File) → AreShort h some → AreShort h more → AreShort h (some ++ more)
short_both h [] more these others = others
short_both h (file ∷ some) more these others = (these.0, short_both h some more these.1 others)

-- the loads up to a file are the first of all
pub up_to_first : {a b : FilesSeen} {files : List File} {last : File} → LoadedUpTo a b files last → CalledFirst a b (loads files)
up_to_first {a} {b} {files} {last} up = record {
  first = loads (up.first ++ last ∷ []);
  rest = loads up.rest;
  order = ap loads (up.order ∙ sym (append_assoc up.first (last ∷ []) up.rest)) ∙ map-append (λ (file : File). loading file.1 (most_bytes file.0)) (up.first ++ last ∷ []) up.rest;
  called = up.called;
}

-- a load that failed, before further files
pub fails_before : (a b : FilesSeen) (files more : List File) (e : Ended) → LoadsFail a b files e → LoadsFail a b (files ++ more) e
fails_before a b files more (Refused t offset code) (name, long, up) = (name, long, up_before more up)
fails_before a b files more (Device which.Load) (file, blamed, up) = (file, blamed, up_before more up)
fails_before a b files more Memory f =
    subst (λ cs. CalledFirst a b cs) (sym (map-append (λ (file : File). loading file.1 (most_bytes file.0)) files more)) (first_before a b (loads files) (loads more) f)
fails_before a b files more _ f = absurd f

-- after a file that is held and isn't too long
pub fails_after : (a b c : FilesSeen) (file : File) (files : List File) (e : Ended) → IfSome a.held (λ h. IsShort h file) → b.held ≡ a.held → Called a b (loads (file ∷ [])) → LoadsFail b c files e
    → LoadsFail a c (file ∷ files) e
fails_after a b c file files (Refused t offset code) short same one (name, long, up) =
    (name, subst (λ o. IfSome o (λ h. IsLong h (t, name))) same long, up_after a b c files (t, name) file short same one up)
fails_after a b c file files (Device which.Load) short same one (last, blamed, up) = (last, blamed, up_after a b c files last file short same one up)
fails_after a b c file files Memory short same one f = first_after a b c (loads (file ∷ [])) (loads files) one f
fails_after a b c file files _ short same one f = absurd f

pub fails_next : {T : Type 0} (a b c : FilesSeen) (file : File) (files : List File) (r : Result T Fault) → IfSome a.held (λ h. IsShort h file) → b.held ≡ a.held → Called a b (loads (file ∷ []))
    → IfErr r (λ e. LoadsFail b c files (ended_by_fault e)) → IfErr r (λ e. LoadsFail a c (file ∷ files) (ended_by_fault e))
fails_next a b c file files (Ok x) short same one f = tt
fails_next a b c file files (Err e) short same one f = fails_after a b c file files (ended_by_fault e) short same one f

-- the answer that comes of it
pub load_called : (m : Meaning) (a b : FilesSeen) (e : Ended) → LoadsFail a b m.files e → IsCalled m a b e
load_called m a b (Refused t offset code) f = inl f
load_called m a b (Device which.Load) f = f
load_called m a b Memory f = inl f
load_called m a b _ f = absurd f

-- ---- saves

-- the save of the formula failed
pub formula_up_to : (a b : FilesSeen) (cnf lrat : Option Name) (work : Work) → (n : Name) × (cnf ≡ Some n) × (b.blame ≡ Some (call.Save, n)) → Called a b (save_if cnf (dimacs work.cnf))
    → SavedUpTo a b [] (saves cnf lrat work)
formula_up_to a b None lrat work (n, is, blamed) called = absurd (cc is)
formula_up_to a b (Some name) lrat work (n, is, blamed) called =
    let same : n ≡ name = cc is in
    record {
      first = [];
      name = name;
      bytes = dimacs work.cnf;
      rest = save_if lrat (lrat_text work.log);
      order = refl;
      failed = blamed ∙ ap (λ (x : Name). Some (call.Save, x)) same;
      called = called;
    }

-- the save of the proof failed
pub proof_up_to : (a b c : FilesSeen) (cnf lrat : Option Name) (work : Work) → Called a b (save_if cnf (dimacs work.cnf)) → (n : Name) × (lrat ≡ Some n) × (c.blame ≡ Some (call.Save, n))
    → Called b c (save_if lrat (lrat_text work.log)) → SavedUpTo a c [] (saves cnf lrat work)
proof_up_to a b c cnf None work formula (n, is, blamed) called = absurd (cc is)
proof_up_to a b c cnf (Some name) work formula (n, is, blamed) called =
    let same : n ≡ name = cc is in
    record {
      first = save_if cnf (dimacs work.cnf);
      name = name;
      bytes = lrat_text work.log;
      rest = [];
      order = refl;
      failed = blamed ∙ ap (λ (x : Name). Some (call.Save, x)) same;
      called = called_then a b c (save_if cnf (dimacs work.cnf)) (saving name (lrat_text work.log) ∷ []) formula called;
    }

-- what doesn't run out of memory is made where there is no error
pub called_ok : {T : Type 0} (P : Type 0) (r : Result T Fault) → (¬ IsErrOf r faults.Memory → P) → OnOk r P
called_ok P (Ok x) f = f (no_error x faults.Memory)
called_ok P (Err e) f = tt

up_to_after : (a b c : FilesSeen) (calls saved : List Call) → Called a b calls → SavedUpTo b c [] saved → SavedUpTo a c calls saved
up_to_after a b c calls saved one up =
    let last = saving up.name up.bytes ∷ [] in
    record {
      first = up.first;
      name = up.name;
      bytes = up.bytes;
      rest = up.rest;
      order = up.order;
      failed = up.failed;
      called = subst (λ cs. Called a c cs) (sym (append_assoc calls up.first last)) (makes_then a.calls b.calls c.calls calls (up.first ++ last) one up.called);
    }

-- the answer that comes of a save that failed, after the loads
pub save_called : (m : Meaning) (a b c : FilesSeen) (v : Verdict) (e : Fault) → IsSaveFault e → Called a b (loads m.files) → IsVerdictFor m a.held v
    → (e ≡ faults.Save → SavedUpTo b c [] (saves m.cnf m.lrat (work_of v))) → (e ≡ faults.Memory → CalledFirst b c (saves m.cnf m.lrat (work_of v))) → IsCalled m a c (ended_by_fault e)
save_called m a b c v faults.Save saves_it one is up first = (v, is, up_to_after a b c (loads m.files) (saves m.cnf m.lrat (work_of v)) one (up refl))
save_called m a b c v faults.Memory saves_it one is up first = inr (v, is, first_after a b c (loads m.files) (saves m.cnf m.lrat (work_of v)) one (first refl))
save_called m a b c v _ saves_it one is up first = absurd saves_it

-- ---- answers

-- the calls of an answer that is no fault are all of them
pub report_called : (m : Meaning) (a b : FilesSeen) (e : Ended) → HasReport e → IsCalled m a b e → CalledAll m a b e
report_called m a b (Correct c work) reported called = called
report_called m a b (Wrong k c work) reported called = called
report_called m a b (Void work) reported called = called
report_called m a b (Undecided asked work) reported called = called
report_called m a b (Replayed j) reported called = called
report_called m a b Ran reported called = called
report_called m a b (Proved work) reported called = called
report_called m a b (Bounded answer) reported called = called
report_called m a b (Retraced j) reported called = called
report_called m a b (Completed answer) reported called = called
report_called m a b _ reported called = absurd reported

pub called_report : (m : Meaning) (a b : FilesSeen) (e : Ended) → HasReport e → CalledAll m a b e → IsCalled m a b e
called_report m a b (Correct c work) reported called = called
called_report m a b (Wrong k c work) reported called = called
called_report m a b (Void work) reported called = called
called_report m a b (Undecided asked work) reported called = called
called_report m a b (Replayed j) reported called = called
called_report m a b Ran reported called = called
called_report m a b (Proved work) reported called = called
called_report m a b (Bounded answer) reported called = called
called_report m a b (Retraced j) reported called = called
called_report m a b (Completed answer) reported called = called
called_report m a b _ reported called = absurd reported

pub verdict_called : (m : Meaning) (a b : FilesSeen) (v : Verdict) → Called a b (loads m.files ++ saves m.cnf m.lrat (work_of v)) → IsCalled m a b (ended_by v)
verdict_called m a b (verdict.Correct c work) called = called
verdict_called m a b (verdict.Wrong k c work) called = called
verdict_called m a b (verdict.Void work) called = called
verdict_called m a b (verdict.Undecided asked work) called = called

-- what is no verdict saves nothing
no_saves : (m : Meaning) (e : Ended) → ((v : Verdict) → ¬ (e ≡ ended_by v)) → saves_of m e ≡ []
no_saves m (Correct c work) other = absurd (other (verdict.Correct c work) refl)
no_saves m (Wrong k c work) other = absurd (other (verdict.Wrong k c work) refl)
no_saves m (Void work) other = absurd (other (verdict.Void work) refl)
no_saves m (Undecided asked work) other = absurd (other (verdict.Undecided asked work) refl)
no_saves m _ other = refl

-- so its calls are the loads
pub loads_called : (m : Meaning) (a b : FilesSeen) (e : Ended) → ((v : Verdict) → ¬ (e ≡ ended_by v)) → Called a b (loads m.files) → CalledAll m a b e
loads_called m a b e other called =
    subst (λ cs. Called a b cs) (sym (ap (λ cs. loads m.files ++ cs) (no_saves m e other) ∙ append-nil (loads m.files))) called
