use Rattle.bd_show.specs.Files.{names_of}
use Rattle.bd_show.specs.inner.Loaded.{texts_view}
use Rattle.bd_show.proofs.Refusals.{fault_told}
use Rattle.bd_show.proofs.fault.fault_answer.Goals as goal

pub returns-in-Bad-clause-says : goal.returns-in-Bad-clause-says
returns-in-Bad-clause-says c =
    fault_told (texts_view c.args.texts.now) (names_of c.args.names) c.args.fault c.in-Bad.file c.in-Bad.offset c.in-Bad.code c.refusal.result c.in-Bad.is c.refusal.ensures.ended c.refusal.ensures.text
