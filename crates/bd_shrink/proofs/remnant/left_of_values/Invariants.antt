use Rattle.std.proofs.Common.{List, [], ◌∷◌, drop}
use Rattle.bd_model.specs.declared.table.Value.{Value}
use Rattle.bd_shrink.specs.Remnant.{after_value, value_left}
use Rattle.bd_shrink.specs.declared.fate.Fate.{Fate}
use Rattle.bd_shrink.proofs.Left.{IsLeft}
use Rattle.bd_shrink.proofs.remnant.left_of_values.Given as goal

abbrev pub invariant-loop-value : goal.invariant-loop-value
invariant-loop-value l =
    IsLeft (λ (fs : List Fate) (v : Value). value_left fs v ∷ []) after_value (drop l.fn.at l.fates) l.values l.left.items (drop l.at l.fates) (drop l.value-index l.values)
