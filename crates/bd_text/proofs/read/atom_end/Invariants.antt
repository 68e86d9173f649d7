use Rattle.std.proofs.Common.{ℕ, ◌<◌, ◌≤◌, get_or}
use Rattle.bd_text.specs.Layout.{IsAtomByte}
use Rattle.bd_text.proofs.read.atom_end.Given as goal

abbrev pub invariant-loop-end : goal.invariant-loop-end
invariant-loop-end l = (k : ℕ) → l.at ≤ k → k < l.end → IsAtomByte (get_or l.bytes k 0)
