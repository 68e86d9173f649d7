use Rattle.std.proofs.Common.{◌≡◌, ◌<◌, ◌∙◌, false, sym, subst}
use Rattle.bd_cnf.specs.Literal.{Literal, has_variable}
use Rattle.bd_lrat.specs.Database.{numbered}
use Rattle.bd_lrat.specs.Log.{HaveDifferentVariables}
use Rattle.bd_watch.specs.Levels.{literals}
use Rattle.bd_cdcl.proofs.Learned.{front_free}
use Rattle.bd_cdcl.proofs.Settled.{complete_different}
use Rattle.bd_cdcl.proofs.plain.search.PlainSearch.learn.Goals as goal

pub decision_clause-requires : goal.decision_clause-requires
decision_clause-requires c =
    subst HaveDifferentVariables (sym (c.deref.ensures.value ∙ c.in_ok-decisions.ensures.same)) (complete_different (numbered c.args.self.now.clauses.items) c.args.self.now.trail.entries c.requires.complete)

pub pack-asserted-requires : goal.pack-asserted-requires
pack-asserted-requires c =
    subst (λ (l : Literal). l.var < c.go_back.new.self.limit) (sym c.negated.ensures) c.in-Some.ensures.below

pub imply-requires-clause-within : goal.imply-requires-clause-within
imply-requires-clause-within c =
    subst (λ (l : Literal). l.var < c.go_back.new.self.limit) (sym (c.pack-asserted.ensures ∙ c.negated.ensures)) c.in-Some.ensures.below

pub imply-requires-clause-unassigned : goal.imply-requires-clause-unassigned
imply-requires-clause-unassigned c =
    let back = c.in-Some.ensures.decision in
    subst (λ (l : Literal). has_variable (literals c.go_back.new.self.entries) l.var ≡ false) (sym (c.pack-asserted.ensures ∙ c.negated.ensures))
    (front_free (numbered c.args.self.now.clauses.items) c.args.self.now.trail.entries c.go_back.new.self.entries c.in-Some.last back.0 c.requires.complete back.1)
