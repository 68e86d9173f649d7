use Rattle.std.specs.Prelude.{IfOk}
use Rattle.std.proofs.Common.{subst, sym}
use Rattle.bd_model.specs.DesignView.{design_view}
use Rattle.bd_app.specs.Verdicts.{IsTrueVerdict}
use Rattle.bd_show.specs.Meaning.{IsShownOf, asked_of}
use Rattle.bd_show.specs.inner.Answered.{check_of}
use Rattle.bd_show.proofs.checking.shown_case.Goals as goal

pub pictured_text-requires-clause-judged : goal.pictured_text-requires-clause-judged
pictured_text-requires-clause-judged c =
    (subst (IsTrueVerdict (design_view c.args.design.now) (asked_of (check_of c.args.options)).given) c.in-Wrong.is c.requires.verdict.is_true).1

pub returns-in_ok-claims-in-Wrong : goal.returns-in_ok-claims-in-Wrong
returns-in_ok-claims-in-Wrong c =
    subst (λ v. IfOk c.pictured_text.result (λ text. IsShownOf (design_view c.args.design.now) v text.items)) (sym c.in-Wrong.is) c.pictured_text.ensures
