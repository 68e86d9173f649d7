use Rattle.std.proofs.Common.{false}
use Rattle.bd_app.specs.Generate.{gen_asked}
use Rattle.bd_app.specs.Verdicts.{IsVerdictReport}
use Rattle.bd_app.specs.declared.fault.Fault.TheVariants.{Memory}
use Rattle.bd_app.specs.inner.Loaded.{sources_view}
use Rattle.bd_app.proofs.Sources.{on_refused, verdict_on_sources}
use Rattle.bd_app.proofs.command.generate.answer_on.Goals as goal

pub returns-in_err-shown : goal.returns-in_err-shown
returns-in_err-shown c = on_refused (IsVerdictReport gen_asked false c.args.lead.now) (sources_view c.args.sources.now) _ c.from_residual.result c.from_residual.ensures.1 c.in_err-shown.ensures.refused

pub returns-in_err-answer : goal.returns-in_err-answer
returns-in_err-answer c = on_refused (IsVerdictReport gen_asked false c.args.lead.now) (sources_view c.args.sources.now) Memory c.from_residual-in_err-answer.result c.from_residual-in_err-answer.ensures.1 tt

pub returns : goal.returns
returns c =
    let done = c.in_ok-answer.ensures in
    verdict_on_sources gen_asked false c.args.lead.now (sources_view c.args.sources.now) c.in_ok-shown.shown c.in_ok-answer.answer c.in_ok-shown.ensures.shown done.ended done.report
