use Rattle.bd_sim.proofs.Limits.{one_within}
use Rattle.bd_running_tests.proofs.cycles.push_values.Goals as goal

pub eval-requires : goal.eval-requires
eval-requires c = record {
  limits = one_within c.args.forms.now.pipe.nexts c.deref-form-items.result.now c.loop-form.form-index c.form-item.result c.deref-form-items.ensures.value c.requires.pipe.next_limits c.loop-form-test.true c.form-item.is;
}
