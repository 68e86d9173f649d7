use Rattle.bd_sim.proofs.Limits.{one_within}
use Rattle.bd_why.proofs.trial.changed_nexts.Goals as goal

pub eval-requires : goal.eval-requires
eval-requires c = record {
  limits = one_within c.args.nexts.now c.deref-next-items.result.now c.loop-next.next-index c.next-item.result c.deref-next-items.ensures.value c.requires.limits c.loop-next-test.true c.next-item.is;
}
