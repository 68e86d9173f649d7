use Rattle.std.proofs.Common.{List, [], ◌∷◌, drop}
use Rattle.bd_model.specs.declared.table.Scalar.{Scalar}
use Rattle.bd_shrink.specs.Remnant.{first_fate, after_one, scalar_left}
use Rattle.bd_shrink.specs.declared.fate.Fate.{Fate}
use Rattle.bd_shrink.proofs.Left.{IsLeft}
use Rattle.bd_shrink.proofs.remnant.left_of_scalars.Given as goal

abbrev pub invariant-loop-scalar : goal.invariant-loop-scalar
invariant-loop-scalar l =
    IsLeft (λ (fs : List Fate) (x : Scalar). scalar_left (first_fate fs) x ∷ []) after_one (drop l.fn.at l.fates) l.scalars l.left.items (drop l.at l.fates) (drop l.scalar-index l.scalars)
