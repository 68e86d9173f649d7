use Rattle.std.proofs.Common.{◌∙◌, ap, refl, slice_get, sym}
use Rattle.std.proofs.lemmas.Option.{slice_get_past}
use Rattle.bd_model.specs.DesignView.{local_view}
use Rattle.bd_slice.proofs.Accounting.{gone_view, got, got_view}
use Rattle.bd_slice.proofs.reason.local_at.Goals as goal

pub returns-in-Some-clause-there : goal.returns-in-Some-clause-there
returns-in-Some-clause-there c =
    let look = c.in-Some.ensures.lookup in
    (local_view c.in-Some.local.now, got_view local_view c.args.locals.now _ c.args.number c.in-Some.local.now refl (ap (λ ls. slice_get ls c.args.number) (sym c.as_slice.ensures) ∙ got _ _ c.in-Some.local.now look.3.0 look.1), refl)

pub returns-in-None-clause-past : goal.returns-in-None-clause-past
returns-in-None-clause-past c =
    gone_view local_view c.args.locals.now _ c.args.number refl (ap (λ ls. slice_get ls c.args.number) (sym c.as_slice.ensures) ∙ slice_get_past _ _ c.in-None.ensures.lookup.3)
