use Rattle.std.proofs.Common.{◌≡◌, ◌++◌, true, drop}
use Rattle.bd_model.specs.DesignView.{design_view}
use Rattle.bd_about.specs.ComparedLines.{symbols_words}
use Rattle.bd_about.proofs.compared_lines.push_symbols.Given as goal

abbrev pub invariant-loop-symbol : goal.invariant-loop-symbol
invariant-loop-symbol l =
    l.out.items ++ symbols_words (design_view l.design) l.first (drop l.symbol-index l.symbols) ≡ l.initial.out.items ++ symbols_words (design_view l.design) true l.symbols
