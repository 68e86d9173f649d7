use Rattle.std.proofs.Common.{◌<◌, length, sym, ◌∙◌, arith}
use Rattle.std.proofs.lemmas.List.Sums.{position_or_len_is}
use Rattle.bd_proof_text.specs.Tokens.{is_separator}
use Rattle.bd_proof_text.proofs.token.run_len.Goals as goal

pub returns-then-is_separator-clause-first : goal.returns-then-is_separator-clause-first
returns-then-is_separator-clause-first c =
    sym (position_or_len_is is_separator c.args.text.now c.loop-at.at 0 (omega arith) c.loop-at.invariant (λ _. sym c.is_separator.ensures ∙ c.if-is_separator.true))

pub returns-clause-first : goal.returns-clause-first
returns-clause-first c =
    let text = c.args.text.now in
    sym (position_or_len_is is_separator text (length text) 0 (omega arith) (λ k h. let lt : k < c.loop-at.at = omega arith in c.loop-at.invariant k lt) (λ h. absurd (omega arith)))
