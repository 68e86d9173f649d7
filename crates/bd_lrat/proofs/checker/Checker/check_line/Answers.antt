use Rattle.std.proofs.Common.{refl, sym, ◌∙◌, subst}
use Rattle.bd_lrat.specs.declared.line.Line.{Line}
use Rattle.bd_lrat.specs.declared.line.Line.TheVariants.{Delete}
use Rattle.bd_cnf.specs.Standing.{Models}
use Rattle.bd_lrat.specs.Database.{after}
use Rattle.bd_lrat.proofs.AnswersAccepted.{addition_is_line, accepted_is_ok}
use Rattle.bd_lrat.proofs.Soundness.{ok_sound, accepted_sound}
use Rattle.bd_lrat.proofs.checker.Checker.check_line.Goals as goal

pub returns-in-Add-clause-accepted : goal.returns-in-Add-clause-accepted
returns-in-Add-clause-accepted c =
    let db = c.args.self.now in
    accepted_is_ok db c.args.line.now c.check_addition.result
    (c.check_addition.ensures.answer ∙ addition_is_line db c.in-Add.id _ _ _ _ c.args.line.now c.lits.ensures.value refl c.in-Add.is)

pub returns-in-Add-clause-sound : goal.returns-in-Add-clause-sound
returns-in-Add-clause-sound c =
    let db = c.args.self.now in
    ok_sound db c.args.line.now c.check_addition.result
    (c.check_addition.ensures.answer ∙ addition_is_line db c.in-Add.id _ _ _ _ c.args.line.now c.lits.ensures.value refl c.in-Add.is)

pub returns-in-Delete-clause-sound : goal.returns-in-Delete-clause-sound
returns-in-Delete-clause-sound c v holds =
    let db = c.args.self.now in
    subst (λ (l : Line). Models v (after db l).clauses) (sym c.in-Delete.is) (accepted_sound db (Delete c.in-Delete.id c.in-Delete.ids) tt v holds)
