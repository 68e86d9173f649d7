use Rattle.std.proofs.Common.{◌≡◌, ◌+◌, sym, ap, ◌∙◌, subst, is_ok}
use Rattle.bd_lrat.specs.declared.line.Line.TheVariants.{Add}
use Rattle.bd_cnf.specs.Standing.{IsBelow, StandsBelow}
use Rattle.bd_lrat.specs.Database.{IsAccepted}
use Rattle.bd_lrat.specs.inner.Store.{Store}
use Rattle.bd_cnf.proofs.Standings.{each_insert}
use Rattle.bd_lrat.proofs.Standings.{each_remove_all}
use Rattle.bd_lrat.proofs.AnswersAccepted.{below_from_within}
use Rattle.bd_lrat.proofs.checker.Checker.add_line.Goals as goal

pub invariant_of-self-in-Delete : goal.invariant_of-self-in-Delete
invariant_of-self-in-Delete c =
    let inside = c.self.inside in
    record {
      none = c.self.invariant.none;
      below = subst (λ (s : Store). StandsBelow (inside.vars + 1) s.clauses) (sym c.remove_all.ensures) (each_remove_all (IsBelow (inside.vars + 1)) c.as_slice.result.now inside.clauses.clauses c.self.invariant.below);
      packable = c.self.invariant.packable;
    }

pub invariant_of-self : goal.invariant_of-self
invariant_of-self c =
    let inside = c.self.inside in
    let db = c.args.self.now in
    let accepted : IsAccepted db c.args.line.now = c.check_line.ensures.accepted.0 (ap is_ok c.in_ok-check_line.was) in
    let added : IsAccepted db (Add c.in-Add.id c.in-Add.clause c.in-Add.hints) = subst (IsAccepted db) c.in-Add.is accepted in
    let vars : inside.vars ≡ db.vars = ap (λ d. d.vars) (c.self.view_is ∙ c.check_line.ensures.unchanged) in
    let low : IsBelow (inside.vars + 1) c.in-Add.clause = subst (λ n. IsBelow (n + 1) c.in-Add.clause) (sym vars) (below_from_within db.vars c.in-Add.clause added.1) in
    let here : IsBelow (inside.vars + 1) c.lits.result.now = subst (IsBelow (inside.vars + 1)) (sym c.lits.ensures.value) low in
    record {
      none = c.self.invariant.none;
      below =
          subst (λ (s : Store). StandsBelow (inside.vars + 1) s.clauses) (sym c.in_ok-insert-in-Add.ensures.ok)
          (each_insert (IsBelow (inside.vars + 1)) inside.clauses.clauses c.in-Add.id c.lits.result.now here c.self.invariant.below);
      packable = c.self.invariant.packable;
    }
