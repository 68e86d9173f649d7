use Rattle.std.proofs.Common.{◌∙◌, ap}
use Rattle.bd_model.specs.DesignView.{design_view}
use Rattle.bd_show.specs.Files.{commented}
use Rattle.bd_app.specs.Loading.{bytes_of}
use Rattle.bd_show.specs.inner.Loaded.{texts_view}
use Rattle.bd_show.proofs.Refusals.{trail_fault}
use Rattle.bd_show.proofs.read.trail.Goals as goal

pub returns-in-Err-Bad-clause-refused : goal.returns-in-Err-Bad-clause-refused
returns-in-Err-Bad-clause-refused c =
    let bad = c.in-Err-Bad in
    trail_fault (texts_view c.args.texts.now) (design_view c.args.design.now) c.in-Some.bytes.items c.as_slice-2.result.now bad.offset bad.code c.requires.design (ap bytes_of c.in-Some.is)
    (c.as_slice-2.ensures.value ∙ c.in_ok-text.ensures ∙ ap commented c.as_slice.ensures.value) (rw bad.field-0-is at bad.ensures.exact)
