use Rattle.std.proofs.Common.{subst}
use Rattle.bd_model.specs.DesignView.{design_view}
use Rattle.bd_model.specs.TrailJudged.{IsTrailJudged}
use Rattle.bd_bounded.proofs.Answering.{only-broken}
use Rattle.bd_bounded.proofs.running.broken_cycle.Goals as goal

pub cycle_of-requires : goal.cycle_of-requires
cycle_of-requires c = only-broken (design_view c.args.design.now) c.args.trail.now c.in_ok-judged.judged c.requires.broken c.in_ok-judged.ensures

pub returns : goal.returns
returns c = subst (IsTrailJudged (design_view c.args.design.now) c.args.trail.now) c.cycle_of.ensures c.in_ok-judged.ensures
