use Rattle.std.proofs.Common.{◌≡◌, ◌∙◌, List, ap, false}
use Rattle.std.specs.Prelude.{slice_index_or}
use Rattle.bd_model.specs.Value.{truth}
use Rattle.bd_model.specs.declared.table.Value.{Value}
use Rattle.bd_slice.specs.inner.Accounts.{part_of}
use Rattle.bd_slice.specs.declared.place.Column.TheVariants as column
use Rattle.bd_slice.proofs.Accounting.{entry_reason, given_entry_reason}
use Rattle.bd_slice.proofs.reason.Run.start.Goals as goal

pub returns-in-Before : goal.returns-in-Before
returns-in-Before c = λ history has.
    let first : c.args.column ≡ column.Before 0 = c.in-Before.is ∙ ap column.Before (rw c.in-Before.is at c.requires.start) in
    given_entry_reason _ _ c.args.column c.args.entry c.args.address _ first c.plain.ensures.facts
    (c.plain.ensures.value ∙ c.part_at-value.ensures ∙ ap (λ (vs : List Value). part_of c.args.address (slice_index_or vs c.args.entry (truth false))) c.as_slice-values.ensures)

pub returns-in-After : goal.returns-in-After
returns-in-After c = absurd (rw c.in-After.is at c.requires.start)

pub returns-in_ok-seen-in-Steps : goal.returns-in_ok-seen-in-Steps
returns-in_ok-seen-in-Steps c =
    let first : c.args.column ≡ column.Steps 0 = c.in-Steps.is ∙ ap column.Steps (rw c.in-Steps.is at c.requires.start) in
    rw first (λ history has. entry_reason _ _ (column.Steps 0) c.args.entry c.args.address _ (c.in_ok-seen-in-Steps.ensures history has))
