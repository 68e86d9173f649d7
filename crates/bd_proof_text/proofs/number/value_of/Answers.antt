use Rattle.std.proofs.Common.{arith, rules}
use Rattle.bd_proof_text.proofs.Decimals.{too_large}
use Rattle.bd_proof_text.proofs.number.value_of.Goals as goal

pub returns-in_err-tens : goal.returns-in_err-tens
returns-in_err-tens c =
    let digits = c.args.digits.now in
    rw (too_large digits c.loop-digit.digit-index 18446744073709551615 c.loop-digit-test.true (omega (arith, c.loop-digit.invariant.read))) (search rules)

pub returns-in_err-value : goal.returns-in_err-value
returns-in_err-value c =
    let digits = c.args.digits.now in
    rw (too_large digits c.loop-digit.digit-index 18446744073709551615 c.loop-digit-test.true (omega (arith, c.loop-digit.invariant.read))) (search rules)
