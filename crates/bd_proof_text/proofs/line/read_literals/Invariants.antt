use Rattle.std.proofs.Common.{◌≡◌, [], length}
use Rattle.bd_cnf.specs.Clause.{IsTautology}
use Rattle.bd_proof_text.specs.ProofText.{literals_from}
use Rattle.bd_proof_text.specs.inner.Signs.{HasSigns}
use Rattle.bd_proof_text.proofs.line.read_literals.Given as goal

abbrev pub invariant-loop-token : goal.invariant-loop-token
invariant-loop-token l = record {
  read : literals_from l.first [] l.initial.tokens ≡ literals_from l.first l.lits.items l.tokens;
  signs : HasSigns l.signs.entries l.lits.items;
  apart : ¬ IsTautology l.lits.items;
}

abbrev pub decreases-loop-token : goal.decreases-loop-token
decreases-loop-token l = length l.tokens
