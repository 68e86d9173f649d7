use Rattle.std.proofs.Common.{◌<◌, get_or, Err, inl, inr, arith}
use Rattle.std.proofs.lemmas.Bool.{cases_lt}
use Rattle.std.proofs.lemmas.List.Sorted.{searched}
use Rattle.bd_lrat.proofs.store.place_of.Goals as goal

pub returns-in-Err-clause-none : goal.returns-in-Err-clause-none
returns-in-Err-clause-none c k h e =
    let ids = c.args.ids.now in
    let found = searched ids c.args.id (Err c.in-Err.field-0) c.in-Err.ensures.position c.requires in
    elim (cases_lt k c.in-Err.field-0) [
      | inl low ↦ let apart : get_or ids k 0 < c.args.id = found.1 k low in omega arith
      | inr high ↦ let apart : c.args.id < get_or ids k 0 = found.2 k high h in omega arith
    ]
