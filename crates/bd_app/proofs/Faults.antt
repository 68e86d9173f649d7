-- What faults are as answers, and what they come of.
use Rattle.std.proofs.Common.{◌≡◌, ◌≢◌, ◌∙◌, sym, ap, refl}
use Rattle.std.specs.Prelude.{Option, Some, None, Result, Ok, Err, IfErr, IsErrAnd, IsErrOf}
use Rattle.bd_files.specs.declared.devices.SaveError.{SaveError}
use Rattle.bd_files.specs.declared.devices.SaveError.TheVariants as saving
use Rattle.bd_verify.specs.declared.verdict.Verdict.{Verdict}
use Rattle.bd_app.specs.Answer.{HasReport}
use Rattle.bd_app.specs.Verdicts.{ended_by}
use Rattle.bd_app.specs.declared.answer.Which.TheVariants as which
use Rattle.bd_app.specs.declared.answer.Ended.{Ended}
use Rattle.bd_app.specs.declared.answer.Ended.TheVariants as ended
use Rattle.bd_app.specs.declared.fault.Fault.{Fault}
use Rattle.bd_app.specs.declared.fault.Fault.TheVariants.{Usage, Refused, BadText, Load, Save, Memory}
use Rattle.bd_app.specs.inner.Faults.{ended_by_fault, save_fault}
use Rattle.bd_app.specs.inner.Saved.{IsSaveFault}
use Rattle.bd_app.proofs.Results.{passed}
use Rattle.bd_app.proofs.Verdicts.{no_verdict}

-- ---- which answers they are

fault_in : Ended → Option Fault
fault_in ended.Usage = Some Usage
fault_in (ended.Refused file offset code) = Some (Refused file offset code)
fault_in (ended.BadText line column why cnf) = Some (BadText line column why cnf)
fault_in (ended.Device which.Load) = Some Load
fault_in (ended.Device which.Save) = Some Save
fault_in ended.Memory = Some Memory
fault_in _ = None

fault_back : (fault : Fault) → fault_in (ended_by_fault fault) ≡ Some fault
unfolding fault_in
fault_back Usage = refl
fault_back (Refused file offset code) = refl
fault_back (BadText line column why cnf) = refl
fault_back Load = refl
fault_back Save = refl
fault_back Memory = refl

-- different faults are different answers
pub same_fault : (fault other : Fault) → ended_by_fault fault ≡ ended_by_fault other → fault ≡ other
same_fault fault other is = cc (sym (fault_back fault) ∙ ap fault_in is ∙ fault_back other)

-- they have no report
pub fault_silent : (fault : Fault) → ¬ HasReport (ended_by_fault fault)
fault_silent Usage = λ h. h
fault_silent (Refused file offset code) = λ h. h
fault_silent (BadText line column why cnf) = λ h. h
fault_silent Load = λ h. h
fault_silent Save = λ h. h
fault_silent Memory = λ h. h

-- the output is none of them
pub fault_no_out : (fault : Fault) → ended_by_fault fault ≢ ended.Device which.Out
fault_no_out Usage is = cc is
fault_no_out (Refused file offset code) is = cc is
fault_no_out (BadText line column why cnf) is = cc is
fault_no_out Load is = cc is
fault_no_out Save is = cc is
fault_no_out Memory is = cc is

-- nor is a verdict
pub fault_no_verdict : (fault : Fault) (v : Verdict) → ended_by_fault fault ≢ ended_by v
fault_no_verdict fault v = no_verdict (ended_by_fault fault) v (fault_silent fault)

-- ---- faults of saves

is_save : (e : SaveError) → IsSaveFault (save_fault e)
is_save saving.Failed = tt
is_save saving.Memory = tt

-- a save that failed is a fault of saving
pub saved_fault : {T : Type 0} (r : Result T Fault) (e : SaveError) → IsErrAnd r (λ y. y ≡ save_fault e) → IfErr r IsSaveFault
saved_fault r e is = passed (λ z. IfErr z IsSaveFault) r (save_fault e) is (is_save e)

-- where the fault is that of the device, it comes of the device
pub device_failed : {T : Type 0} (r : Result T Fault) (e : SaveError) → IsErrAnd r (λ y. y ≡ save_fault e) → IsErrOf r Save → e ≡ saving.Failed
device_failed (Ok x) e h is = absurd h
device_failed (Err y) saving.Failed h is = refl
device_failed (Err y) saving.Memory h is = let memory : y ≡ Memory = h in let save : y ≡ Save = cc is in absurd (cc (memory, save))

-- and only there
pub device_fault : {T : Type 0} (r : Result T Fault) (e : SaveError) → IsErrAnd r (λ y. y ≡ save_fault e) → e ≡ saving.Failed → IsErrOf r Save
device_fault (Ok x) e h is = absurd h
device_fault (Err y) e h is = ap (λ z. Err z) (h ∙ ap save_fault is)
