use Rattle.std.proofs.Common.{◌≡◌, ◌+◌, length}
use Rattle.bd_proof_text.specs.ProofText.{line_count, proof_from, proof_text}
use Rattle.bd_proof_text.proofs.reading.read_proof.Given as goal

abbrev pub invariant-loop-text : goal.invariant-loop-text
invariant-loop-text l = record {
  read : proof_text l.cnf l.bytes ≡ proof_from (line_count l.bytes) l.reader.checker l.reader.log (l.number + 1) l.lines;
  counted : l.number + length l.lines ≡ line_count l.bytes;
}

abbrev pub decreases-loop-text : goal.decreases-loop-text
decreases-loop-text l = length l.lines
