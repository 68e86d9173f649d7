use Rattle.bd_model.specs.DesignView.{design_view}
use Rattle.bd_app.specs.Retrace.{IsRetraced}
use Rattle.bd_app.specs.Texts.{trail_kind}
use Rattle.bd_app.specs.declared.fault.Fault.TheVariants.{Memory}
use Rattle.bd_app.specs.inner.Done.{IsSaidOf, IsTextRefused}
use Rattle.bd_app.proofs.Sources.{on_no_text}
use Rattle.bd_app.proofs.command.retrace.judged.Goals as goal

pub returns-in_err-trail : goal.returns-in_err-trail
returns-in_err-trail c =
    on_no_text (IsSaidOf trail_kind IsRetraced) (IsTextRefused trail_kind) (design_view c.args.design.now) c.args.bytes.now _ c.from_residual.result c.from_residual.ensures.1 c.in_err-trail.ensures.refused

pub returns-in_err-judged : goal.returns-in_err-judged
returns-in_err-judged c =
    on_no_text (IsSaidOf trail_kind IsRetraced) (IsTextRefused trail_kind) (design_view c.args.design.now) c.args.bytes.now Memory c.from_residual-in_err-judged.result c.from_residual-in_err-judged.ensures.1 tt

pub returns-in_err-answer : goal.returns-in_err-answer
returns-in_err-answer c =
    on_no_text (IsSaidOf trail_kind IsRetraced) (IsTextRefused trail_kind) (design_view c.args.design.now) c.args.bytes.now Memory c.from_residual-in_err-answer.result c.from_residual-in_err-answer.ensures.1 tt

pub returns : goal.returns
returns c =
    let read = c.in_ok-trail.ensures.read in
    let answer = c.in_ok-answer.ensures in
    record {
      said = record { text = c.in_ok-trail.trail; read = read.0; fits = read.1; says = record { judgement = c.in_ok-judged.judged; is_judged = c.in_ok-judged.ensures; ended = answer.0; words = answer.1 } };
      refused = tt;
    }
