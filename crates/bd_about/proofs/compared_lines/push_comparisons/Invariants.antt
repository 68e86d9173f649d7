use Rattle.std.proofs.Common.{◌≡◌, ◌++◌, true, drop}
use Rattle.bd_model.specs.DesignView.{design_view}
use Rattle.bd_about.specs.ComparedLines.{all_compared}
use Rattle.bd_about.proofs.compared_lines.push_comparisons.Given as goal

abbrev pub invariant-loop-place : goal.invariant-loop-place
invariant-loop-place l =
    l.out.items ++ all_compared (design_view l.design) l.none (drop l.place l.symbols) (drop l.place l.compared)
    ≡ l.initial.out.items ++ all_compared (design_view l.design) true l.symbols l.compared
