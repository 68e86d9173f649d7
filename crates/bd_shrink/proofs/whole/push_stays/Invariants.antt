use Rattle.std.proofs.Common.{◌≡◌, ◌++◌}
use Rattle.std.specs.Prelude.{replicate}
use Rattle.bd_shrink.specs.declared.fate.Fate.TheVariants.{Stays}
use Rattle.bd_shrink.proofs.whole.push_stays.Given as goal

abbrev pub invariant-loop-place : goal.invariant-loop-place
invariant-loop-place l = l.fates.items ≡ l.fn.fates.items ++ replicate l._place Stays
