use Rattle.std.proofs.Common.{map, ap}
use Rattle.bd_model.specs.DesignView.{design_view, exact_view}
use Rattle.bd_sim.specs.inner.Env.{env_view}
use Rattle.bd_sim.proofs.Steps.{exact_allowed, exact_counted}
use Rattle.bd_sim.proofs.judgement.counts_of_cycle.Goals as goal

pub returns-clause-counts : goal.returns-clause-counts
returns-clause-counts c =
    exact_counted (design_view c.args.design.now) (env_view c.in_ok-env.env) _ c.args.interp.now c.args.state.now c.args.inputs.now (cc c.in_ok-env.ensures)
    (ap (map exact_view) c.as_slice-2.ensures) _ c.true_counts.ensures

pub returns-clause-allow : goal.returns-clause-allow
returns-clause-allow c = exact_allowed (design_view c.args.design.now) c.args.interp.now c.args.state.now c.args.inputs.now _ (returns-clause-counts c)
