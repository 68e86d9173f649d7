use Rattle.std.proofs.Common.{ℕ, ◌≤◌, take}
use Rattle.bd_function.specs.inner.Scalars.{word_at}
use Rattle.bd_diverse.proofs.scalars.greatest_word.Given as goal

abbrev pub invariant-loop-scalar : goal.invariant-loop-scalar
invariant-loop-scalar l = (k : ℕ) → word_at (take l.scalar-index l.scalars) k ≤ l.most
