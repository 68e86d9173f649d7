use Rattle.std.proofs.Common.{◌≡◌, ◌++◌, length, Ok, ap, refl, ◌∙◌}
use Rattle.std.specs.Prelude.{codes}
use Rattle.std.specs.Fmt.{decimal}
use Rattle.bd_model.specs.DesignView.{design_view}
use Rattle.bd_case.specs.Reads.{IsTrailReading}
use Rattle.bd_case.specs.declared.kind.Version.TheVariants.{Two}
use Rattle.bd_case.proofs.OneReading.{written_trail_reads}
use Rattle.bd_case.proofs.Written.{text_is_read}
use Rattle.bd_case.proofs.write.trail_text.Goals as goal

pub returns-clause-reads_back : goal.returns-clause-reads_back
returns-clause-reads_back c = λ lawful fits few.
    let d = design_view c.args.design.now in
    let t = c.args.trail.now in
    let heading : c.push_word.new.out.items ≡ codes "(trail " ++ decimal (length t.inputs) =
    c.in_ok-push_word.ensures.text ∙ ap (λ n. c.in_ok-heading.heading.items ++ decimal n) c.len.ensures ∙ ap (λ h. h ++ decimal (length t.inputs)) c.in_ok-heading.ensures.items in
    text_is_read (λ v. v.items) (λ s. IsTrailReading d s (Ok t)) c.written.result d t _ _ Two Two c.as_slice-inputs.result.now heading refl c.as_slice-inputs.ensures fits c.written.ensures.exact c.written.ensures.short
    (λ short. written_trail_reads d t lawful fits short few)
