use Rattle.std.proofs.Common.{Ok, sym, ap, ◌∙◌}
use Rattle.bd_proof_text.specs.ProofText.{◌>>=◌, clause_of}
use Rattle.bd_proof_text.proofs.Clauses.{clause-is}
use Rattle.bd_proof_text.proofs.line.read_clause.Goals as goal

pub returns : goal.returns
returns c =
    ap (λ r. r >>= (λ found. Ok (clause_of found.0, found.1))) c.in_ok-lits.ensures.read
    ∙ ap (λ made. Ok (made, c.read_literals.new.tokens)) (sym (clause-is c.in-Some.clause c.in_ok-lits.lits.items c.in-Some.ensures.rising c.in-Some.ensures.literals c.in_ok-lits.ensures.apart))
