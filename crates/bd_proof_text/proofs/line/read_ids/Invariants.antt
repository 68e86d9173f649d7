use Rattle.std.proofs.Common.{◌≡◌, [], length}
use Rattle.bd_proof_text.specs.ProofText.{ids_from}
use Rattle.bd_proof_text.proofs.line.read_ids.Given as goal

abbrev pub invariant-loop-token : goal.invariant-loop-token
invariant-loop-token l = ids_from l.first [] l.initial.tokens ≡ ids_from l.first l.ids l.tokens

abbrev pub decreases-loop-token : goal.decreases-loop-token
decreases-loop-token l = length l.tokens
