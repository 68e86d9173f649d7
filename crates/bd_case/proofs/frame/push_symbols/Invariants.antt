use Rattle.std.proofs.Common.{◌≡◌, ◌++◌, drop}
use Rattle.bd_case.specs.Kinds.{symbol_kinds}
use Rattle.bd_case.proofs.frame.push_symbols.Given as goal

abbrev pub invariant-loop-f : goal.invariant-loop-f
invariant-loop-f l =
    l.kinds.items ++ symbol_kinds l.version l.distinct l.f-counter (drop l.f-counter l.symbols)
    ≡ l.initial.kinds.items ++ symbol_kinds l.version l.distinct 0 l.symbols
