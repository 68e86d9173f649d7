use Rattle.std.proofs.Common.{map}
use Rattle.bd_model.specs.DesignView.{exact_view}
use Rattle.bd_sim.specs.ExactCounts.{counts_in}
use Rattle.bd_sim.specs.inner.Env.{env_view}
use Rattle.bd_sim.proofs.ExactItems.{IsCounted}
use Rattle.bd_sim.proofs.judgement.true_counts.Given as goal

abbrev pub invariant-loop-item : goal.invariant-loop-item
invariant-loop-item l = IsCounted (env_view l.env) l.items l.item-index l.counts.items (counts_in (env_view l.env) (map exact_view l.items))
