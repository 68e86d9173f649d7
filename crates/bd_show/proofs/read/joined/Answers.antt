use Rattle.bd_show.specs.inner.Loaded.{texts_view}
use Rattle.bd_show.proofs.Readable.{joined_result}
use Rattle.bd_show.proofs.Refusals.{joined_are, refused_joined}
use Rattle.bd_show.proofs.read.joined.Goals as goal

pub returns-clause-read : goal.returns-clause-read
returns-clause-read c =
    joined_are (texts_view c.args.texts.now) _ _ _ _ c.completed_design.result c.completed_design.ensures.exact c.as_slice.ensures.value c.as_slice-2.ensures.value c.requires.comp c.loaded_slice.ensures

pub returns-clause-readable : goal.returns-clause-readable
returns-clause-readable c =
    joined_result (texts_view c.args.texts.now) _ _ _ _ c.completed_design.result c.completed_design.ensures.exact c.as_slice.ensures.value

pub returns-clause-refused : goal.returns-clause-refused
returns-clause-refused c =
    refused_joined (texts_view c.args.texts.now) _ _ _ _ c.completed_design.result c.completed_design.ensures.exact c.as_slice.ensures.value c.as_slice-2.ensures.value c.requires.comp c.loaded_slice.ensures
