use Rattle.bd_model.specs.DesignView.{design_view}
use Rattle.bd_show.specs.inner.Answered.{bounded_of}
use Rattle.bd_show.specs.inner.Loaded.{texts_view}
use Rattle.bd_show.proofs.Runs.{run_says, trail_kept}
use Rattle.bd_show.proofs.bounding.on_texts.Goals as goal

pub returns-in-Ok-clause-says : goal.returns-in-Ok-clause-says
returns-in-Ok-clause-says c =
    run_says (bounded_of c.args.options) (texts_view c.args.texts.now) (design_view c.in-Ok.design) c.on_design.result c.in-Ok.ensures.read c.on_design.ensures.says

pub returns-in-Ok-clause-saved : goal.returns-in-Ok-clause-saved
returns-in-Ok-clause-saved c =
    trail_kept c.args.options.cycles (texts_view c.args.texts.now) (design_view c.in-Ok.design) c.on_design.result c.in-Ok.ensures.read c.on_design.ensures.saved
