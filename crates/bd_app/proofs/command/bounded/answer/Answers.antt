use Rattle.bd_app.specs.Bounded.{bounded_names, bounded_of, IsBoundedReport}
use Rattle.bd_app.specs.inner.Loaded.{sources_view}
use Rattle.bd_app.proofs.Effects.{load_failed, loaded_stand}
use Rattle.bd_app.proofs.Sources.{bounded_plain, design_done}
use Rattle.bd_app.proofs.command.bounded.answer.Goals as goal

pub returns-in_err-sources : goal.returns-in_err-sources
returns-in_err-sources g c = load_failed _ _ _ _ c.from_residual.result c.from_residual.ensures.1 c.in_err-sources.ensures.left

pub returns : goal.returns
returns g c =
    let loads = c.in_ok-sources.ensures in
    let cycles = c.args.options.cycles in
    let budget = c.args.options.budget in
    design_done (bounded_names (bounded_of c.args.options)) (IsBoundedReport cycles budget) _ _ (sources_view c.in_ok-sources.sources) c.run_on_sources.result (bounded_plain cycles budget) (loaded_stand loads.left) loads.loaded
    c.run_on_sources.ensures
