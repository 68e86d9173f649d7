use Rattle.bd_model.specs.DesignView.{design_view}
use Rattle.bd_app.specs.declared.fault.Fault.TheVariants.{Memory}
use Rattle.bd_app.specs.inner.Done.{IsBadProof, IsProvedBy}
use Rattle.bd_app.proofs.Sources.{is_bad_proof, on_no_text}
use Rattle.bd_app.proofs.command.recheck.proved.Goals as goal

pub returns-in_err-work : goal.returns-in_err-work
returns-in_err-work c =
    let d = design_view c.args.design.now in
    on_no_text IsProvedBy IsBadProof d c.args.bytes.now _ c.from_residual.result c.from_residual.ensures.1 (is_bad_proof d c.args.bytes.now _ c.in_err-work.ensures.fault)

pub returns-in_err-answer : goal.returns-in_err-answer
returns-in_err-answer c = on_no_text IsProvedBy IsBadProof (design_view c.args.design.now) c.args.bytes.now Memory c.from_residual-in_err-answer.result c.from_residual-in_err-answer.ensures.1 tt

pub returns : goal.returns
returns c =
    let read = c.in_ok-work.ensures in
    let answer = c.in_ok-answer.ensures in
    record {
      said = record { work = c.in_ok-work.work; ended = answer.0; proves = record { read = read.read; refutes = read.refutes; right = read.right }; words = answer.1 };
      refused = tt;
    }
