use Rattle.bd_model.specs.DesignView.{design_view}
use Rattle.bd_app.specs.Complete.{IsCompleteReport}
use Rattle.bd_app.specs.declared.fault.Fault.TheVariants.{Memory}
use Rattle.bd_app.specs.inner.Loaded.{sources_view}
use Rattle.bd_app.proofs.Completions.{on_completion, on_no_completion}
use Rattle.bd_app.proofs.command.complete.answer_on_bytes.Goals as goal

pub returns-in_err-joined : goal.returns-in_err-joined
returns-in_err-joined c =
    on_no_completion (IsCompleteReport c.args.agree c.args.budget) (sources_view c.args.bytes.now.sources) c.args.bytes.now.text.items _ c.from_residual.result c.from_residual.ensures.1 c.in_err-joined.ensures.refused

pub returns-in_err-answer : goal.returns-in_err-answer
returns-in_err-answer c =
    on_no_completion (IsCompleteReport c.args.agree c.args.budget) (sources_view c.args.bytes.now.sources) c.args.bytes.now.text.items Memory c.from_residual-in_err-answer.result c.from_residual-in_err-answer.ensures.1 tt

pub returns : goal.returns
returns c =
    let joined = c.in_ok-joined.joined in
    on_completion (IsCompleteReport c.args.agree c.args.budget) (sources_view c.args.bytes.now.sources) c.args.bytes.now.text.items (design_view joined.design) joined.abs c.in_ok-answer.answer c.in_ok-joined.ensures.read
    c.in_ok-answer.ensures
