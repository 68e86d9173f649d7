use Rattle.std.proofs.Common.{◌≡◌, ◌++◌, drop}
use Rattle.bd_about.specs.Equations.{symbols_among}
use Rattle.bd_about.specs.inner.Paired.{has_pair}
use Rattle.bd_about.proofs.compared.Compared.with.Given as goal

abbrev pub invariant-loop-other : goal.invariant-loop-other
invariant-loop-other l = l.found ++ symbols_among (has_pair l.self l.symbol) (drop l.other-index l.symbols) ≡ symbols_among (has_pair l.self l.symbol) l.symbols
