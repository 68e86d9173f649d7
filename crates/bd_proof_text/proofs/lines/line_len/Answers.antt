use Rattle.std.proofs.Common.{◌<◌, length, sym, arith}
use Rattle.std.proofs.lemmas.Bool.{eq-eqb}
use Rattle.std.proofs.lemmas.List.Sums.{position_or_len_is}
use Rattle.bd_proof_text.specs.Tokens.{is_feed}
use Rattle.bd_proof_text.proofs.lines.line_len.Goals as goal

pub returns-then-byte-eq10-clause-first : goal.returns-then-byte-eq10-clause-first
returns-then-byte-eq10-clause-first c = sym (position_or_len_is is_feed c.args.bytes.now c.loop-at.at 0 (omega arith) c.loop-at.invariant (λ _. eq-eqb _ _ c.if-byte-eq10.true))

pub returns-clause-first : goal.returns-clause-first
returns-clause-first c =
    let bytes = c.args.bytes.now in
    sym (position_or_len_is is_feed bytes (length bytes) 0 (omega arith) (λ k h. let lt : k < c.loop-at.at = omega arith in c.loop-at.invariant k lt) (λ h. absurd (omega arith)))
