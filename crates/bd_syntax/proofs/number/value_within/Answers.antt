use Rattle.std.proofs.Common.{refl, arith, rules}
use Rattle.bd_syntax.proofs.Numbers.{too_large}
use Rattle.bd_syntax.proofs.number.value_within.Goals as goal

pub returns-then-value-most-clause-exact : goal.returns-then-value-most-clause-exact
returns-then-value-most-clause-exact c =
    let digits = c.args.digits.now in
    rw (too_large digits c.loop-digit.digit-index c.args.most c.loop-digit-test.true (omega (arith, c.loop-digit.invariant.read))) refl

pub returns-in_err-tens-clause-exact : goal.returns-in_err-tens-clause-exact
returns-in_err-tens-clause-exact c =
    let digits = c.args.digits.now in
    rw (too_large digits c.loop-digit.digit-index c.args.most c.loop-digit-test.true (omega (arith, c.loop-digit.invariant.read))) (search rules)

pub returns-in_err-value-clause-exact : goal.returns-in_err-value-clause-exact
returns-in_err-value-clause-exact c =
    let digits = c.args.digits.now in
    rw (too_large digits c.loop-digit.digit-index c.args.most c.loop-digit-test.true (omega (arith, c.loop-digit.invariant.read))) (search rules)
