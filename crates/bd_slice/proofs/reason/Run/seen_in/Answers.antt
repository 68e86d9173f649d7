use Rattle.std.proofs.Common.{◌∙◌, List, ap, false, sym}
use Rattle.std.specs.Prelude.{slice_index_or}
use Rattle.bd_model.specs.Value.{truth}
use Rattle.bd_model.specs.declared.table.Value.{Value}
use Rattle.bd_slice.specs.inner.Accounts.{part_of}
use Rattle.bd_slice.specs.declared.moment.Moment.{Moment}
use Rattle.bd_slice.specs.declared.subject.Finding.TheVariants as finding
use Rattle.bd_slice.proofs.Accounting.{seen_accounts}
use Rattle.bd_slice.proofs.reason.Run.seen_in.Goals as goal

pub returns : goal.returns
returns c = λ is.
    seen_accounts _ _ c.args.entry c.args.place c.args.address c.subject_of-subject.result c.in_ok-fact.fact _ c.requires c.subject_of-subject.ensures
    (c.in_ok-found.ensures.value ∙ c.part_at-value.ensures ∙ ap (λ (vs : List Value). part_of c.args.address (slice_index_or vs c.args.place (truth false))) c.as_slice-values.ensures ∙ ap (λ (m : Moment). part_of c.args.address (slice_index_or m.state c.args.place (truth false))) is)
    (c.in_ok-fact.ensures ∙ ap (λ v. finding.Rests c.subject_of-subject.result v) (sym c.in_ok-found.ensures.value)) c.in_ok-found.ensures.facts
