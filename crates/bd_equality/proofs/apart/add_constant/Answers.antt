use Rattle.std.proofs.Common.{sym, ◌∙◌}
use Rattle.bd_equality.proofs.Constants.{AddsConstant-some, AddsConstant-unmarked, AddsConstant-none}
use Rattle.bd_equality.proofs.apart.add_constant.Goals as goal

pub returns-in_ok-insert : goal.returns-in_ok-insert
returns-in_ok-insert c =
    AddsConstant-some c.args.vertices.now c.args.sym.now c.constant.result c.constant.ensures c.args.constants.now c.in-Some.function c.in-Some.variable c.in-Some.is
    (sym c.has.ensures ∙ c.if-has.true) c.insert.new.self c.in_ok-insert.ensures

pub returns-else-has : goal.returns-else-has
returns-else-has c =
    AddsConstant-unmarked c.args.vertices.now c.args.sym.now c.constant.result c.constant.ensures c.args.constants.now c.in-Some.function c.in-Some.variable c.in-Some.is
    (sym c.has.ensures ∙ c.if-has.false)

pub returns-in_default : goal.returns-in_default
returns-in_default c = AddsConstant-none c.args.vertices.now c.args.sym.now c.constant.result c.constant.ensures c.args.constants.now (λ p h. c.in_default.not-Some p h)
