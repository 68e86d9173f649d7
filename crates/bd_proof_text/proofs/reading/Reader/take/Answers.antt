use Rattle.std.proofs.Common.{sym, subst}
use Rattle.bd_proof_text.specs.ProofText.{tokens_step}
use Rattle.bd_proof_text.specs.inner.Steps.{Takes}
use Rattle.bd_proof_text.proofs.Steps.{takes-accepted}
use Rattle.bd_proof_text.proofs.reading.Reader.take.Goals as goal

pub returns-clause-ok : goal.returns-clause-ok
returns-clause-ok c =
    let old = c.args.self.now in
    let new = c.add.new.self in
    let tokens = c.args.tokens.now in
    subst (Takes (tokens_step old.checker tokens) old new) (sym c.adds_empty-ends.ensures)
    (takes-accepted old new c.in-Some.first c.next_token.new.self tokens c.in_ok-line.line c.in-Some.ensures.first c.in_ok-line.ensures c.in_ok-add.ensures.accepted c.in_ok-add.ensures.ok)
