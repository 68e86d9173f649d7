use Rattle.bd_model.specs.DesignView.{design_view}
use Rattle.bd_shrink.proofs.Lowered.{shown_by}
use Rattle.bd_shrink.proofs.search.shows.Goals as goal

pub returns : goal.returns
returns c =
    shown_by (design_view c.args.question.now.design.now) c.args.question.now.case.now c.args.case.now c.in_ok-judged.judged c.args.question.now.which _ _ (c.fits.ensures.0 c.if-not-fits.false) c.in_ok-judged.ensures
    c.is_broken.ensures c.if-not-is_broken.false c.keeps.ensures
