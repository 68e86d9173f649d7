use Rattle.std.proofs.Common.{◌∙◌, ap, slice_get, sym}
use Rattle.std.proofs.lemmas.Option.{slice_get_past}
use Rattle.bd_model.specs.ExprView.{expr_view}
use Rattle.bd_model.proofs.Views.{list_of-expr_views}
use Rattle.bd_slice.proofs.Accounting.{gone_view, got, got_view}
use Rattle.bd_slice.proofs.reason.expr_at.Goals as goal

pub returns-in-Some-clause-there : goal.returns-in-Some-clause-there
returns-in-Some-clause-there c =
    let look = c.in-Some.ensures.lookup in
    got_view expr_view _ _ _ _ (sym (list_of-expr_views c.args.exprs.now)) (ap (λ es. slice_get es c.args.number) (sym c.deref.ensures.value) ∙ got _ _ c.in-Some.expr.now look.3.0 look.1)

pub returns-in-None-clause-past : goal.returns-in-None-clause-past
returns-in-None-clause-past c =
    gone_view expr_view _ _ c.args.number (sym (list_of-expr_views c.args.exprs.now)) (ap (λ es. slice_get es c.args.number) (sym c.deref.ensures.value) ∙ slice_get_past _ _ c.in-None.ensures.lookup.3)
