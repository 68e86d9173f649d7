use Rattle.std.proofs.Common.{◌≡◌, false, map, take}
use Rattle.bd_model.specs.declared.table.Scalar.TheVariants as scalar
use Rattle.bd_lift.specs.inner.Built.{scalar_as}
use Rattle.bd_lift.proofs.build.blank_inputs.Given as goal

abbrev pub invariant-loop-sort : goal.invariant-loop-sort
invariant-loop-sort l = l.scalars.items ≡ map (λ s. scalar_as s (scalar.Bool false)) (take l.sort-index l.sorts)
