use Rattle.std.proofs.Common.{◌≡◌, List, ◌^◌, ◌+◌, ◌<◌, ◌∙◌, sym, ap, subst, arith, length, take}
use Rattle.std.specs.List.{All}
use Rattle.std.proofs.lemmas.List.{length-take-le, take_all}
use Rattle.std.proofs.lemmas.List.Elements.{All-weaker}
use Rattle.std.specs.FinMap.{insert}
use Rattle.bd_cnf.specs.Literal.{Literal}
use Rattle.bd_cnf.specs.Clause.{IsWithin}
use Rattle.bd_lrat.specs.inner.Store.{Store, store}
use Rattle.bd_cnf.specs.Standing.{IsBelow, StandsBelow}
use Rattle.bd_lrat.specs.Database.{numbered}
use Rattle.bd_lrat.proofs.Standings.{each_numbered, numbered_more}
use Rattle.bd_lrat.proofs.AnswersAccepted.{below_from_within, below_packable}
use Rattle.bd_lrat.proofs.checker.Checker.new.Goals as goal

pub insert-requires-clause-below : goal.insert-requires-clause-below
insert-requires-clause-below c =
    let vars = c.vars-vars.result in
    let within : All (IsWithin c.args.cnf.now.vars) c.clauses-clause-items.result.now = subst (λ cs. All (IsWithin c.args.cnf.now.vars) cs) (sym c.clauses-clause-items.ensures.value) c.clauses-clause-items.ensures.within in
    let here : IsWithin c.args.cnf.now.vars c.clause-item.result = subst (IsWithin c.args.cnf.now.vars) (sym c.clause-item.is) (within c.loop-clause.clause-index c.clause-item.result (omega arith)) in
    let few : c.args.cnf.now.vars < 2 ^ 31 = omega (arith, c.vars-vars.ensures) in
    subst (IsBelow (2 ^ 31)) (sym c.lits.ensures.value) (below_packable c.args.cnf.now.vars c.clause-item.result few here)

pub loop-clause-preserved : goal.loop-clause-preserved
loop-clause-preserved c =
    let i = c.loop-clause.clause-index in
    let clauses = c.clauses-clause-items.result.now in
    let here : i < length clauses = omega arith in
    let next = numbered_more clauses i c.clause-item.result here c.clause-item.is (length-take-le i clauses (omega arith)) in
    record {
      last = omega arith;
      clauses =
          c.in_ok-insert.ensures.ok ∙ ap (λ (s : Store). store (c.loop-clause.last + 1) (insert s.clauses (c.loop-clause.last + 1) c.lits.result.now)) c.loop-clause.invariant.clauses
          ∙ ap (λ (x : List Literal). store (c.loop-clause.last + 1) (insert (numbered (take i clauses)) (c.loop-clause.last + 1) x)) c.lits.ensures.value
          ∙ ap (λ k. store (c.loop-clause.last + 1) (insert (numbered (take i clauses)) (k + 1) c.clause-item.result)) c.loop-clause.invariant.last ∙ ap (store (c.loop-clause.last + 1)) (sym next);
    }

pub invariant_of-result : goal.invariant_of-result
invariant_of-result c =
    let i = c.loop-clause.clause-index in
    let clauses = c.clauses-clause-items.result.now in
    let vars = c.vars-vars.result in
    let all : numbered (take i clauses) ≡ numbered clauses = ap numbered (take_all i clauses (omega arith)) in
    let within : All (IsWithin c.args.cnf.now.vars) clauses = subst (λ cs. All (IsWithin c.args.cnf.now.vars) cs) (sym c.clauses-clause-items.ensures.value) c.clauses-clause-items.ensures.within in
    let same : c.args.cnf.now.vars ≡ vars = sym c.vars-vars.ensures in
    let low : All (IsBelow (vars + 1)) clauses = All-weaker (IsWithin c.args.cnf.now.vars) (IsBelow (vars + 1)) (λ x h. below_from_within vars x (subst (λ n. IsWithin n x) same h)) clauses within in
    record {
      none = c.in_ok-trail.ensures;
      below = subst (StandsBelow (vars + 1)) (sym (ap (λ (s : Store). s.clauses) c.loop-clause.invariant.clauses ∙ all)) (each_numbered (IsBelow (vars + 1)) clauses low);
      packable = omega arith;
    }
