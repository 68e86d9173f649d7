use Rattle.std.proofs.Common.{◌≡◌, [], length}
use Rattle.bd_proof_text.specs.ProofText.{hints_from}
use Rattle.bd_proof_text.proofs.line.read_hints.Given as goal

abbrev pub invariant-loop-token : goal.invariant-loop-token
invariant-loop-token l = hints_from l.first [] l.initial.tokens ≡ hints_from l.first l.hints l.tokens

abbrev pub decreases-loop-token : goal.decreases-loop-token
decreases-loop-token l = length l.tokens
