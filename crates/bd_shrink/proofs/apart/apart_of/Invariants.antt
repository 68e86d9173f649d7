use Rattle.std.proofs.Common.{◌≡◌}
use Rattle.bd_model.specs.DesignView.{design_view}
use Rattle.bd_shrink.specs.Apart.{values_below}
use Rattle.bd_shrink.proofs.apart.apart_of.Given as goal

abbrev pub invariant-loop-comparison : goal.invariant-loop-comparison
invariant-loop-comparison l = l.values.items ≡ values_below l.comparison-index (design_view l.design) l.case
