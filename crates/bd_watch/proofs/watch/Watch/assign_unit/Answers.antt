use Rattle.std.proofs.Common.{◌∙◌, ap, refl, sym}
use Rattle.bd_cnf.specs.Literal.{has_literal}
use Rattle.bd_cnf.specs.Trail.{open_literals}
use Rattle.bd_watch.specs.Levels.{literals}
use Rattle.bd_watch.specs.Watching.{clause_at}
use Rattle.bd_watch.proofs.Parts.{unassigned_from}
use Rattle.bd_watch.proofs.Units.{empty_from, single_from, unit_false, unit_conflicts, unit_implied, unit_below}
use Rattle.bd_watch.proofs.watch.Watch.assign_unit.Goals as goal

pub returns-in_default : goal.returns-in_default
returns-in_default c =
    let w = c.args.self.now in
    unit_conflicts w c.args.place c.requires.starting c.requires.within (ap (open_literals (literals w.trail.entries)) (sym c.get-clause.ensures ∙ empty_from c.get-clause.result.now c.in_default.ensures.value))

pub returns-then-has : goal.returns-then-has
returns-then-has c =
    let w = c.args.self.now in
    let l = c.in-Some.field-0.now in
    let single = sym c.get-clause.ensures ∙ single_from c.get-clause.result.now l c.in-Some.ensures.value c.if-clause-ge2.false in
    unit_conflicts w c.args.place c.requires.starting c.requires.within
    (unit_false (literals w.trail.entries) (clause_at w.clauses c.args.place) l single (ap (has_literal (literals w.trail.entries)) (sym c.negated.ensures) ∙ sym c.has.ensures ∙ c.if-has.true))

pub imply-requires-clause-unassigned : goal.imply-requires-clause-unassigned
imply-requires-clause-unassigned c =
    let ls = literals c.args.self.now.trail.entries in
    unassigned_from ls c.in-Some.field-0.now (sym c.has-2.ensures ∙ c.if-not-has.true) (ap (has_literal ls) (sym c.negated.ensures) ∙ sym c.has.ensures ∙ c.if-has.false)

pub returns-then-not-has : goal.returns-then-not-has
returns-then-not-has c =
    let w = c.args.self.now in
    let ls = literals w.trail.entries in
    let l = c.in-Some.field-0.now in
    let single = sym c.get-clause.ensures ∙ single_from c.get-clause.result.now l c.in-Some.ensures.value c.if-clause-ge2.false in
    unit_implied w c.imply.new.self c.args.place _ l c.requires.starting c.requires.within single
    (sym c.has-2.ensures ∙ c.if-not-has.true) (ap (has_literal ls) (sym c.negated.ensures) ∙ sym c.has.ensures ∙ c.if-has.false)
    refl c.imply.ensures.implied c.imply.ensures.room (unit_below w c.args.place l c.requires.starting c.requires.within single)
