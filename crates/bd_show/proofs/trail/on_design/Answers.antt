use Rattle.bd_model.specs.DesignView.{design_view}
use Rattle.bd_show.specs.inner.Loaded.{texts_view}
use Rattle.bd_show.proofs.Trails.{seen_drawn, unstarted_lawful}
use Rattle.bd_show.proofs.trail.on_design.Goals as goal

pub on_judged-requires-clause-lawful : goal.on_judged-requires-clause-lawful
on_judged-requires-clause-lawful c = unstarted_lawful (design_view c.args.design) (design_view c.unstarted-design.result) c.unstarted-design.ensures c.requires.lawful

pub returns-in-Ok-clause-drawn : goal.returns-in-Ok-clause-drawn
returns-in-Ok-clause-drawn c =
    seen_drawn (texts_view c.args.texts.now) (design_view c.args.design) (design_view c.unstarted-design.result) c.in-Ok.judging.trail c.in-Ok.judging.judged c.on_judged.result c.unstarted-design.ensures c.in-Ok.ensures.read c.on_judged.ensures
