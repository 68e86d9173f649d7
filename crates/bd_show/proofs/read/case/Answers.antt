use Rattle.bd_model.specs.DesignView.{design_view}
use Rattle.bd_show.specs.inner.Loaded.{texts_view}
use Rattle.bd_show.proofs.Refusals.{case_read, case_refused}
use Rattle.bd_show.proofs.read.case.Goals as goal

pub returns-clause-read : goal.returns-clause-read
returns-clause-read c = case_read (texts_view c.args.texts.now) (design_view c.args.design.now) c.case_of.result c.requires.design c.case_of.ensures.read c.case_of.ensures.fits

pub returns-clause-refused : goal.returns-clause-refused
returns-clause-refused c = case_refused (texts_view c.args.texts.now) (design_view c.args.design.now) c.case_of.result c.requires.design c.case_of.ensures.refused
