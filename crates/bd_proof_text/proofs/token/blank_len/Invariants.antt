use Rattle.std.proofs.Common.{◌≡◌, ℕ, ◌<◌, false, not, get_or}
use Rattle.bd_proof_text.specs.Tokens.{is_separator}
use Rattle.bd_proof_text.proofs.token.blank_len.Given as goal

abbrev pub invariant-loop-at : goal.invariant-loop-at
invariant-loop-at l = (k : ℕ) → k < l.at → not (is_separator (get_or l.text k 0)) ≡ false
