use Rattle.std.proofs.Common.{◌≢◌, ℕ, ◌<◌, get_or}
use Rattle.bd_text.specs.Layout.{IsAllowed}
use Rattle.bd_text.proofs.read.comment_end.Given as goal

abbrev pub invariant-loop-end : goal.invariant-loop-end
invariant-loop-end l = (k : ℕ) → l.at < k → k < l.end → IsAllowed (get_or l.bytes k 0) × (get_or l.bytes k 0 ≢ 10)
