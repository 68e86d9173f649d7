use Rattle.std.proofs.Common.{List, drop}
use Rattle.bd_model.specs.declared.table.Row.{Row}
use Rattle.bd_shrink.specs.Remnant.{first_fate, after_one, row_left}
use Rattle.bd_shrink.specs.declared.fate.Fate.{Fate}
use Rattle.bd_shrink.proofs.Left.{IsLeft}
use Rattle.bd_shrink.proofs.remnant.left_of_rows.Given as goal

abbrev pub invariant-loop-row : goal.invariant-loop-row
invariant-loop-row l =
    IsLeft (λ (fs : List Fate) (r : Row). row_left (first_fate fs) r) after_one (drop l.fn.at l.fates) l.rows l.left.items (drop l.at l.fates) (drop l.row-index l.rows)
