use Rattle.bd_show.specs.inner.Answered.{show_of}
use Rattle.bd_show.specs.inner.Loaded.{texts_view}
use Rattle.bd_show.proofs.Joins.{case_drawn, case_says}
use Rattle.bd_show.proofs.completed.on_design.Goals as goal

pub returns-in-Ok-clause-says : goal.returns-in-Ok-clause-says
returns-in-Ok-clause-says c =
    case_says (show_of c.args.options) (texts_view c.args.texts.now) c.args.joined.now c.in-Ok.case c.on_case.result c.in-Ok.ensures.read c.on_case.ensures

pub returns-in-Ok-clause-drawn : goal.returns-in-Ok-clause-drawn
returns-in-Ok-clause-drawn c =
    case_drawn (texts_view c.args.texts.now) c.args.joined.now c.in-Ok.case c.on_case.result c.in-Ok.ensures.read c.on_case.ensures
