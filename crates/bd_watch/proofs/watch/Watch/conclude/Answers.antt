use Rattle.std.proofs.Common.{◌∙◌, ◌+◌, ap, sym, refl}
use Rattle.bd_cnf.specs.Literal.{Literal, has_literal}
use Rattle.bd_watch.specs.Levels.{literals}
use Rattle.bd_watch.proofs.Parts.{unassigned_from}
use Rattle.bd_watch.proofs.VisitedClauses.{left_below, visits_false, visits_implied}
use Rattle.bd_watch.proofs.watch.Watch.conclude.Goals as goal

pub has-requires : goal.has-requires
has-requires c = left_below c.args.self.now c.args.clause c.args.left c.negated.result c.requires.watching c.requires.long c.requires.left.here (ap (λ (l : Literal). l.var) c.negated.ensures)

pub returns-then-has : goal.returns-then-has
returns-then-has c l =
    visits_false c.args.self.now c.args.clause c.args.left l c.requires.watching c.requires.left
    (ap (has_literal (literals c.args.self.now.trail.entries)) (sym c.negated.ensures) ∙ sym c.has.ensures ∙ c.if-has.true)

pub imply-requires-clause-within : goal.imply-requires-clause-within
imply-requires-clause-within c = left_below c.args.self.now c.args.clause c.args.left c.args.left c.requires.watching c.requires.long c.requires.left.here refl

pub imply-requires-clause-unassigned : goal.imply-requires-clause-unassigned
imply-requires-clause-unassigned c =
    unassigned_from (literals c.args.self.now.trail.entries) c.args.left c.requires.left.not_true
    (ap (has_literal (literals c.args.self.now.trail.entries)) (sym c.negated.ensures) ∙ sym c.has.ensures ∙ c.if-has.false)

pub returns : goal.returns
returns c l =
    visits_implied c.args.self.now c.imply.new.self c.args.clause _ c.args.left l c.requires.watching c.requires.long c.requires.left
    (ap (has_literal (literals c.args.self.now.trail.entries)) (sym c.negated.ensures) ∙ sym c.has.ensures ∙ c.if-has.false)
    (ap (λ n. n + 1) c.from.ensures) c.imply.ensures.implied c.imply.ensures.room
