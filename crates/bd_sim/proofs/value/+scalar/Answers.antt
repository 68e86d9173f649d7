use Rattle.bd_model.proofs.Views.{values_of-expr_views}
use Rattle.bd_sim.proofs.value.+scalar.Goals as goal

pub all_true-loop-part-init : goal.all_true-loop-part-init
all_true-loop-part-init t c = rw (values_of-expr_views, c.deref-part-items.ensures.value)

pub any_true-loop-part-init : goal.any_true-loop-part-init
any_true-loop-part-init t c = rw (values_of-expr_views, c.deref-part-items.ensures.value)

pub words-loop-part-init : goal.words-loop-part-init
words-loop-part-init t c = rw (values_of-expr_views, c.deref-part-items.ensures.value, c.new-words.ensures.items)
