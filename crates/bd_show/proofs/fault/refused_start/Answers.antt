use Rattle.bd_show.specs.Files.{names_of}
use Rattle.bd_show.specs.inner.Loaded.{texts_view}
use Rattle.bd_show.proofs.Refusals.{start_told}
use Rattle.bd_show.proofs.fault.refused_start.Goals as goal

pub returns-clause-says : goal.returns-clause-says
returns-clause-says c =
    start_told (texts_view c.args.texts.now) (names_of c.args.names) c.args.fault c.fault_answer.result c.requires c.fault_answer.ensures.says
