use Rattle.std.proofs.Common.{◌≡◌, length, ap, sym, ◌∙◌, arith}
use Rattle.bd_equality.proofs.Rowing.{rows_apart, rows_compared}
use Rattle.bd_equality.proofs.ways.two_rows.Goals as goal

pub returns-then-first-second : goal.returns-then-first-second
returns-then-first-second c = λ marked a b x y. rows_apart c.args.flat.now.graph c.args.flat.now.syms marked c.args.flat.now.root c.args.flat.now.flat c.args.first c.args.second a b c.if-first-second.true x y

pub returns-then-left-right : goal.returns-then-left-right
returns-then-left-right c = λ marked a b x y.
    let alike : length c.arguments_at-left.result.now ≡ length c.arguments_at-right.result.now = omega arith in
    rows_compared c.args.flat.now.graph c.args.flat.now.syms marked c.args.first c.args.second a b c.if-first-second.false
    (sym (ap length c.arguments_at-left.ensures) ∙ alike ∙ ap length c.arguments_at-right.ensures) x y
