use Rattle.std.proofs.Common.{◌≡◌, ℕ, ◌<◌, false, get_or}
use Rattle.bd_proof_text.specs.Tokens.{is_feed}
use Rattle.bd_proof_text.proofs.lines.line_len.Given as goal

abbrev pub invariant-loop-at : goal.invariant-loop-at
invariant-loop-at l = (k : ℕ) → k < l.at → is_feed (get_or l.bytes k 0) ≡ false
