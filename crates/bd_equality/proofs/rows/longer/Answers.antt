use Rattle.std.proofs.Common.{◌≡◌, ◌+◌, sym, arith, subst}
use Rattle.std.proofs.lemmas.Option.{same_Some}
use Rattle.bd_equality.specs.inner.Rows.{IsTail}
use Rattle.bd_equality.proofs.Rowing.{tail_longer}
use Rattle.bd_equality.proofs.rows.longer.Goals as goal

pub returns-then-is_equality : goal.returns-then-is_equality
returns-then-is_equality c = λ marked id no there tail more e.
    let next : c.args.tail.from ≡ c.in_ok-from.from + 1 = omega (arith, c.in_ok-from.ensures) in
    subst (λ t. IsTail c.args.flat.now.graph c.args.flat.now.syms marked t id) (same_Some _ more e)
    (tail_longer c.args.flat.now.graph c.is_variable.ensures.graph c.args.flat.now.syms c.args.tail c.in_ok-from.from c.args.control c.args.yes c.in_ok-before.before.now c.in_ok-own.own.now c.as_slice.result.now c.as_slice-then-is_variable.result.now
    next (sym c.in_ok-before.ensures) (sym c.in_ok-own.ensures) c.as_slice.ensures c.as_slice-then-is_variable.ensures (c.is_variable.ensures.leaf c.if-is_variable.true) (c.is_equality.ensures c.if-is_equality.true) marked id no there tail)
