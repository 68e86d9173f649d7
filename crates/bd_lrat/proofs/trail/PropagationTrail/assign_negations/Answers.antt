use Rattle.std.proofs.Common.{◌∙◌, ap, arith}
use Rattle.bd_cnf.specs.Literal.{Literal, has_literal, negate}
use Rattle.bd_cnf.proofs.Trails.{apart_before}
use Rattle.bd_lrat.proofs.trail.PropagationTrail.assign_negations.Goals as goal

pub assign-requires-clause-not_true : goal.assign-requires-clause-not_true
assign-requires-clause-not_true c =
    let lit = c.lit-item.result in
    let var = ap (λ (l : Literal). l.var) c.negated.ensures ∙ ap (λ (l : Literal). l.var) c.lit-item.is in
    ap (λ t. has_literal t.literals c.negated.result) c.loop-lit.invariant
    ∙ apart_before 0 c.loop-lit.lit-index c.args.clause.now lit c.negated.result c.requires.rising (omega arith) var

pub assign-requires-clause-not_false : goal.assign-requires-clause-not_false
assign-requires-clause-not_false c =
    let lit = c.lit-item.result in
    let var = ap (λ (l : Literal). l.var) c.negated.ensures ∙ ap (λ (l : Literal). l.var) c.lit-item.is in
    ap (λ t. has_literal t.literals (negate c.negated.result)) c.loop-lit.invariant
    ∙ apart_before 0 c.loop-lit.lit-index c.args.clause.now lit (negate c.negated.result) c.requires.rising (omega arith) var
