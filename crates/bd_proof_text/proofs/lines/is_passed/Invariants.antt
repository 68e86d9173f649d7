use Rattle.std.proofs.Common.{◌≡◌, drop}
use Rattle.bd_proof_text.specs.Tokens.{is_passed}
use Rattle.bd_proof_text.proofs.lines.is_passed.Given as goal

abbrev pub invariant-loop-byte : goal.invariant-loop-byte
invariant-loop-byte l = is_passed l.line ≡ is_passed (drop l.byte-index l.line)
