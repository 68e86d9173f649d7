use Rattle.std.proofs.Common.{take}
use Rattle.bd_watch.proofs.ThirdLiterals.{HasBesides}
use Rattle.bd_watch.proofs.load.third.Given as goal

abbrev pub invariant-loop-lit : goal.invariant-loop-lit
invariant-loop-lit l = HasBesides (take l.lit-index l.lits) l.first l.second l.third
