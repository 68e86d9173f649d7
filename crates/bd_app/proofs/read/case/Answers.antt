use Rattle.bd_case.specs.Reading.{case_form}
use Rattle.bd_model.specs.DesignView.{design_view}
use Rattle.bd_app.specs.Texts.{case_kind}
use Rattle.bd_app.proofs.Texts.{text_not_read, text_read}
use Rattle.bd_app.proofs.read.case.Goals as goal

pub returns-clause-read : goal.returns-clause-read
returns-clause-read c =
    let d = design_view c.args.design.now in
    rw c.of_text.ensures (text_read case_kind d c.args.bytes.now (case_form d) (λ x reads. reads) c.read_case.result c.read_case.ensures.exact (c.read_case.ensures.fits c.requires))

pub returns-clause-refused : goal.returns-clause-refused
returns-clause-refused c =
    let d = design_view c.args.design.now in
    rw c.of_text.ensures (text_not_read case_kind d c.args.bytes.now (case_form d) (λ x reads. reads) c.read_case.result c.read_case.ensures.exact)
