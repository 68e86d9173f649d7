use Rattle.bd_show.specs.inner.Loaded.{texts_view}
use Rattle.bd_show.proofs.Readable.{readable_result}
use Rattle.bd_show.proofs.Refusals.{refused_by}
use Rattle.bd_show.proofs.read.design.Goals as goal

pub returns-clause-refused : goal.returns-clause-refused
returns-clause-refused c =
    refused_by (texts_view c.args.texts.now) _ _ _ c.design_of.result c.design_of.ensures.exact c.as_slice.ensures.value c.as_slice-2.ensures.value c.loaded_slice.ensures

pub returns-clause-readable : goal.returns-clause-readable
returns-clause-readable c =
    readable_result (texts_view c.args.texts.now) _ _ _ c.design_of.result c.design_of.ensures.exact c.as_slice.ensures.value c.as_slice-2.ensures.value c.loaded_slice.ensures
