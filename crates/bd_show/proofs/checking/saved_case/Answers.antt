use Rattle.bd_model.specs.DesignView.{design_view}
use Rattle.bd_show.specs.Meaning.{asked_of}
use Rattle.bd_show.specs.inner.Answered.{check_of}
use Rattle.bd_show.proofs.Checks.{wrong_saved}
use Rattle.bd_show.proofs.checking.saved_case.Goals as goal

pub returns-in_ok-printed-in-Wrong : goal.returns-in_ok-printed-in-Wrong
returns-in_ok-printed-in-Wrong c =
    let wrong = c.in-Wrong in
    let printed = c.in_ok-printed-in-Wrong in
    wrong_saved (design_view c.args.design.now) (asked_of (check_of c.args.options)).given c.args.verdict.now wrong.field-0 wrong.case wrong.field-2 printed.field-0.items wrong.is c.requires.verdict.is_true printed.ensures
