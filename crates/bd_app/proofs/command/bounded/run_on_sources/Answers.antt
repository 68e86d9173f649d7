use Rattle.bd_model.specs.DesignView.{design_view}
use Rattle.bd_app.specs.Bounded.{IsBoundedReport}
use Rattle.bd_app.specs.declared.fault.Fault.TheVariants.{Memory}
use Rattle.bd_app.specs.inner.Loaded.{sources_view}
use Rattle.bd_app.proofs.Sources.{on_refused}
use Rattle.bd_app.proofs.command.bounded.run_on_sources.Goals as goal

pub returns-in_err-design : goal.returns-in_err-design
returns-in_err-design c =
    on_refused (IsBoundedReport c.args.cycles c.args.budget) (sources_view c.args.sources.now) _ c.from_residual.result c.from_residual.ensures.1 c.in_err-design.ensures.refused

pub returns-in_err-answer : goal.returns-in_err-answer
returns-in_err-answer c =
    on_refused (IsBoundedReport c.args.cycles c.args.budget) (sources_view c.args.sources.now) Memory c.from_residual-in_err-answer.result c.from_residual-in_err-answer.ensures.1 tt

pub returns : goal.returns
returns c = record { said = (design_view c.in_ok-design.design, c.in_ok-design.ensures.read, c.in_ok-answer.ensures); refused = tt }
