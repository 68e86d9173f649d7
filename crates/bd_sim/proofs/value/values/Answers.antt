use Rattle.bd_model.proofs.Views.{list_of-expr_views}
use Rattle.bd_sim.proofs.value.values.Goals as goal

pub loop-expr-init : goal.loop-expr-init
loop-expr-init c = rw (list_of-expr_views, c.deref-expr-items.ensures.value, c.new-values.ensures.items)
