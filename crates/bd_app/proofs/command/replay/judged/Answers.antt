use Rattle.bd_model.specs.DesignView.{design_view}
use Rattle.bd_app.specs.Replay.{IsJudgement}
use Rattle.bd_app.specs.Texts.{case_kind}
use Rattle.bd_app.specs.declared.fault.Fault.TheVariants.{Memory}
use Rattle.bd_app.specs.inner.Done.{IsSaidOf, IsTextRefused}
use Rattle.bd_app.proofs.Sources.{on_no_text}
use Rattle.bd_app.proofs.command.replay.judged.Goals as goal

pub returns-in_err-case : goal.returns-in_err-case
returns-in_err-case c =
    on_no_text (IsSaidOf case_kind IsJudgement) (IsTextRefused case_kind) (design_view c.args.design.now) c.args.bytes.now _ c.from_residual.result c.from_residual.ensures.1 c.in_err-case.ensures.refused

pub returns-in_err-judged : goal.returns-in_err-judged
returns-in_err-judged c =
    on_no_text (IsSaidOf case_kind IsJudgement) (IsTextRefused case_kind) (design_view c.args.design.now) c.args.bytes.now Memory c.from_residual-in_err-judged.result c.from_residual-in_err-judged.ensures.1 tt

pub returns-in_err-answer : goal.returns-in_err-answer
returns-in_err-answer c =
    on_no_text (IsSaidOf case_kind IsJudgement) (IsTextRefused case_kind) (design_view c.args.design.now) c.args.bytes.now Memory c.from_residual-in_err-answer.result c.from_residual-in_err-answer.ensures.1 tt

pub returns : goal.returns
returns c =
    let read = c.in_ok-case.ensures.read in
    let answer = c.in_ok-answer.ensures in
    record {
      said = record { text = c.in_ok-case.case; read = read.0; fits = read.1; says = record { judgement = c.in_ok-judged.judged; is_judged = c.in_ok-judged.ensures; ended = answer.0; words = answer.1 } };
      refused = tt;
    }
