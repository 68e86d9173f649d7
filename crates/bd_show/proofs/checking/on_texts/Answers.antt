use Rattle.bd_model.specs.DesignView.{design_view}
use Rattle.bd_show.specs.inner.Answered.{check_of}
use Rattle.bd_show.specs.inner.Loaded.{texts_view}
use Rattle.bd_show.proofs.Checks.{case_kept, verdict_says}
use Rattle.bd_show.proofs.checking.on_texts.Goals as goal

pub returns-in-Ok-clause-says : goal.returns-in-Ok-clause-says
returns-in-Ok-clause-says c =
    verdict_says (check_of c.args.options) (texts_view c.args.texts.now) (design_view c.in-Ok.design) c.on_design.result c.in-Ok.ensures.read c.on_design.ensures.says

pub returns-in-Ok-clause-saved : goal.returns-in-Ok-clause-saved
returns-in-Ok-clause-saved c =
    case_kept (texts_view c.args.texts.now) (design_view c.in-Ok.design) c.on_design.result c.in-Ok.ensures.read c.on_design.ensures.saved
