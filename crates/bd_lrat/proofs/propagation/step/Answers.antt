use Rattle.std.proofs.Common.{sym, subst, IfSome}
use Rattle.bd_cnf.specs.Standing.{IsBelow}
use Rattle.bd_cnf.proofs.Opens.{open_is_open, open_is_below}
use Rattle.bd_lrat.proofs.propagation.step.Goals as goal

pub is_true-requires : goal.is_true-requires
is_true-requires c =
    let limit = c.args.trail.now.limit in
    let low : IsBelow limit c.in-Some.clause.now = subst (λ o. IfSome o (IsBelow limit)) (sym c.in-Some.ensures) (c.requires c.in-Unit.id) in
    open_is_below limit c.args.trail.now.literals c.in-Some.clause.now c.in-Unit-status.lit low c.in-Unit-status.ensures

pub assign-requires-clause-within : goal.assign-requires-clause-within
assign-requires-clause-within c =
    let limit = c.args.trail.now.limit in
    let low : IsBelow limit c.in-Some.clause.now = subst (λ o. IfSome o (IsBelow limit)) (sym c.in-Some.ensures) (c.requires c.in-Unit.id) in
    open_is_below limit c.args.trail.now.literals c.in-Some.clause.now c.in-Unit-status.lit low c.in-Unit-status.ensures

pub assign-requires-clause-not_false : goal.assign-requires-clause-not_false
assign-requires-clause-not_false c = open_is_open c.args.trail.now.literals c.in-Some.clause.now c.in-Unit-status.lit c.in-Unit-status.ensures
