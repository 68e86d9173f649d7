use Rattle.std.proofs.Common.{◌≡◌, suc, ◌+◌, List, map, if◌then◌else◌, false, ap, sym, ◌∙◌, true≢false}
use Rattle.bd_model.specs.declared.table.Scalar.{Scalar}
use Rattle.bd_model.specs.declared.table.Scalar.TheVariants as scalar
use Rattle.bd_model.specs.Table.{at}
use Rattle.bd_function.specs.Tables.{world_of_tables}
use Rattle.bd_function.specs.inner.Scalars.{word_at}
use Rattle.bd_diverse.proofs.Settling.{among-none}
use Rattle.bd_diverse.proofs.adding.row_value.Goals as goal

pub returns-in_ok-words : goal.returns-in_ok-words
returns-in_ok-words c =
    let o = c.args.old.now in
    let table = world_of_tables c.args.tables.now c.args.sym in
    let args = map (word_at o.scalars.items) c.args.args.now in
    c.value_at.ensures
    ∙ ap (at table) (c.deref-else-has.ensures.value ∙ c.in_ok-words.ensures ∙ ap (λ (l : List Scalar). map (word_at l) c.args.args.now) c.deref.ensures.value)
    ∙ sym (ap (λ b. if b then scalar.Word (suc (o.bound + c.args.place)) else at table args) (among-none o.positive c.args.sym (λ h. true≢false (sym (c.has.ensures.1 h) ∙ c.if-has.false))))
