use Rattle.std.proofs.Common.{sym, subst}
use Rattle.bd_model.specs.DesignView.{design_view}
use Rattle.bd_model.specs.declared.case.Case.{Case}
use Rattle.bd_shrink.specs.Shrunk.{Shows}
use Rattle.bd_shrink.proofs.Differing.{keeps_itself}
use Rattle.bd_shrink.proofs.Lowered.{shrunk}
use Rattle.bd_shrink.proofs.shrinking.shrink.Goals as goal

pub lowered_once-requires-clause-shown : goal.lowered_once-requires-clause-shown
lowered_once-requires-clause-shown c =
    let d = design_view c.args.design.now in
    let whole = c.args.case.now in
    let shows : Shows d whole whole c.args.which = record { fits = c.requires.fits; judged = c.requires.broken; keeps = keeps_itself d whole c.args.which } in
    subst (λ (k : Case). Shows d whole k c.args.which) (sym c.in_ok-whole.ensures) shows

pub returns : goal.returns
returns c = shrunk (design_view c.args.design.now) c.args.case.now c.args.which c.in_ok-fates-2.fates.items _ _ c.as_slice.ensures.value c.in_ok-fates-2.ensures.shown c.in_ok-fates-2.ensures.small c.remnant_of.ensures
