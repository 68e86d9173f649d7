use Rattle.std.proofs.Common.{◌+◌, sym, ap, subst}
use Rattle.bd_cnf.specs.Standing.{IsBelow}
use Rattle.bd_lrat.proofs.AnswersAccepted.{within_from_past, below_from_within}
use Rattle.bd_lrat.proofs.checker.Checker.check_addition.Goals as goal

pub assign_negations-requires-clause-within : goal.assign_negations-requires-clause-within
assign_negations-requires-clause-within c =
    let inside = c.self.inside in
    let h = c.in_default.ensures in
    let low : IsBelow (inside.vars + 1) c.args.clause.now = below_from_within inside.vars c.args.clause.now (within_from_past inside.vars c.args.clause.now (sym c.in_default.ensures)) in
    subst (λ n. IsBelow n c.args.clause.now) (sym (ap (λ t. t.limit) c.self.invariant.none)) low
