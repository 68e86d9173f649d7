use Rattle.std.proofs.Common.{ap, Err}
use Rattle.bd_app.proofs.Faults.{device_failed, device_fault, saved_fault}
use Rattle.bd_app.proofs.save.save.Goals as goal

pub returns-in_err-save-clause-fault : goal.returns-in_err-save-clause-fault
returns-in_err-save-clause-fault g c = saved_fault c.from_residual.result _ c.from_residual.ensures.1

pub returns-in_err-save-clause-rose : goal.returns-in_err-save-clause-rose
returns-in_err-save-clause-rose g c = λ is. c.in_err-save.ensures.failed_rose (ap (λ e. Err e) (device_failed c.from_residual.result _ c.from_residual.ensures.1 is))

pub returns-in_err-save-clause-blamed : goal.returns-in_err-save-clause-blamed
returns-in_err-save-clause-blamed g c = λ is. c.in_err-save.ensures.failed_blames (ap (λ e. Err e) (device_failed c.from_residual.result _ c.from_residual.ensures.1 is))

pub returns-in_err-save-clause-else_keeps_blame : goal.returns-in_err-save-clause-else_keeps_blame
returns-in_err-save-clause-else_keeps_blame g c = λ other. c.in_err-save.ensures.else_keeps_blame (λ is. other (device_fault c.from_residual.result _ c.from_residual.ensures.1 (cc is)))
