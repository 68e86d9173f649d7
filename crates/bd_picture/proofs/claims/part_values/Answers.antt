use Rattle.bd_model.proofs.Views.{list_of-expr_views}
use Rattle.bd_sim.proofs.Limits.{one_within}
use Rattle.bd_picture.proofs.claims.part_values.Goals as goal

pub loop-part-init : goal.loop-part-init
loop-part-init c = rw (list_of-expr_views, c.deref-part-items.ensures.value, c.new-values.ensures.items)

pub value_in-requires : goal.value_in-requires
value_in-requires c =
    one_within c.args.parts.now c.deref-part-items.result.now c.loop-part.part-index c.part-item.result c.deref-part-items.ensures.value c.requires c.loop-part-test.true c.part-item.is
