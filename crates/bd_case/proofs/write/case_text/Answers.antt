use Rattle.std.proofs.Common.{◌≡◌, ◌++◌, Ok, ap, ◌∙◌}
use Rattle.std.specs.Prelude.{codes}
use Rattle.bd_model.specs.DesignView.{design_view}
use Rattle.bd_case.specs.Kinds.{version_of}
use Rattle.bd_case.specs.Content.{trail_of}
use Rattle.bd_case.specs.Reads.{IsReading}
use Rattle.bd_case.specs.Text.{version_text}
use Rattle.bd_case.proofs.OneReading.{written_case_reads}
use Rattle.bd_case.proofs.WhatIsReadFits.{fits_once}
use Rattle.bd_case.proofs.Written.{text_is_read}
use Rattle.bd_case.proofs.write.case_text.Goals as goal

pub returns-clause-reads_back : goal.returns-clause-reads_back
returns-clause-reads_back c = λ lawful fits.
    let d = design_view c.args.design.now in
    let case = c.args.case.now in
    let version : c.version_of-version.result ≡ version_of d.distinct = c.version_of-version.ensures in
    let heading : c.extend_from_slice.new.self.items ≡ codes "(case " ++ version_text (version_of d.distinct) =
    c.in_ok-extend_from_slice.ensures.items
    ∙ ap (λ v. c.in_ok-heading.heading.items ++ v) (c.version_text.ensures ∙ ap version_text version)
    ∙ ap (λ h. h ++ version_text (version_of d.distinct)) c.in_ok-heading.ensures.items in
    text_is_read (λ v. v.items) (λ s. IsReading d s (Ok case)) c.written.result d (trail_of case) _ _ c.version_of-version.result (version_of d.distinct) c.from_ref-inputs.result.now
    heading version c.from_ref-inputs.ensures.value (fits_once d case fits) c.written.ensures.exact c.written.ensures.short (λ short. written_case_reads d case lawful fits short)
