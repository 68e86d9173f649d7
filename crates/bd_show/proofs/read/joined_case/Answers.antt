use Rattle.bd_typer.specs.Joined.{joined_view}
use Rattle.bd_show.specs.inner.Loaded.{texts_view}
use Rattle.bd_show.proofs.Refusals.{joined_case_read, joined_case_refused}
use Rattle.bd_show.proofs.read.joined_case.Goals as goal

pub returns-clause-read : goal.returns-clause-read
returns-clause-read c = joined_case_read (texts_view c.args.texts.now) (joined_view c.args.joined.now) c.case_of.result c.requires.joined c.case_of.ensures.read c.case_of.ensures.fits

pub returns-clause-refused : goal.returns-clause-refused
returns-clause-refused c = joined_case_refused (texts_view c.args.texts.now) (joined_view c.args.joined.now) c.case_of.result c.requires.joined c.case_of.ensures.refused
