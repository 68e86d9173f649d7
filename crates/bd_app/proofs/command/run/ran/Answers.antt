use Rattle.std.proofs.Common.{refl}
use Rattle.bd_model.specs.DesignView.{design_view}
use Rattle.bd_app.specs.Run.{IsTrace}
use Rattle.bd_app.specs.Texts.{case_kind}
use Rattle.bd_app.specs.declared.fault.Fault.TheVariants.{Memory}
use Rattle.bd_app.specs.inner.Done.{IsSaidOf, IsTextRefused}
use Rattle.bd_app.proofs.Sources.{on_no_text}
use Rattle.bd_app.proofs.command.run.ran.Goals as goal

pub returns-in_err-case : goal.returns-in_err-case
returns-in_err-case c =
    on_no_text (IsSaidOf case_kind (IsTrace c.args.cycles)) (IsTextRefused case_kind) (design_view c.args.design.now) c.args.bytes.now _ c.from_residual.result c.from_residual.ensures.1 c.in_err-case.ensures.refused

pub returns-in_err-report : goal.returns-in_err-report
returns-in_err-report c =
    on_no_text (IsSaidOf case_kind (IsTrace c.args.cycles)) (IsTextRefused case_kind) (design_view c.args.design.now) c.args.bytes.now Memory c.from_residual-in_err-report.result c.from_residual-in_err-report.ensures.1 tt

pub returns : goal.returns
returns c =
    let read = c.in_ok-case.ensures.read in
    record { said = record { text = c.in_ok-case.case; read = read.0; fits = read.1; says = record { ended = refl; states = c.in_ok-report.ensures } }; refused = tt }
