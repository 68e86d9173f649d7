use Rattle.bd_case.specs.Reading.{trail_form}
use Rattle.bd_model.specs.DesignView.{design_view}
use Rattle.bd_app.specs.Texts.{trail_kind}
use Rattle.bd_app.proofs.Texts.{short_trail, text_not_read, text_read}
use Rattle.bd_app.proofs.read.trail.Goals as goal

pub returns-clause-read : goal.returns-clause-read
returns-clause-read c =
    let d = design_view c.args.design.now in
    rw c.of_text.ensures (text_read trail_kind d c.args.bytes.now (trail_form d) (λ x reads. reads) c.read_trail.result c.read_trail.ensures.exact (short_trail d c.read_trail.result (c.read_trail.ensures.fits c.requires) c.read_trail.ensures.cycles))

pub returns-clause-refused : goal.returns-clause-refused
returns-clause-refused c =
    let d = design_view c.args.design.now in
    rw c.of_text.ensures (text_not_read trail_kind d c.args.bytes.now (trail_form d) (λ x reads. reads) c.read_trail.result c.read_trail.ensures.exact)
