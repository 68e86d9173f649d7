use Rattle.std.proofs.Common.{◌∙◌, ap, ◌++◌}
use Rattle.std.specs.Prelude.{replicate}
use Rattle.std.specs.List.{flat_map}
use Rattle.bd_shrink.specs.declared.fate.Fate.TheVariants.{Stays}
use Rattle.bd_shrink.specs.inner.Whole.{stay_table, stay_value}
use Rattle.bd_shrink.proofs.AllStays.{whole_stays}
use Rattle.bd_shrink.proofs.whole.whole.Goals as goal

pub returns : goal.returns
returns c =
    whole_stays c.args.case.now c.new-fates.result.items c.push_tables.new.fates.items c.push_values.new.fates.items c.push_stays.new.fates.items c.new-fates.ensures.items
    (c.in_ok-push_tables.ensures ∙ ap (λ ts. c.new-fates.result.items ++ flat_map stay_table ts) c.as_slice.ensures)
    (c.in_ok-push_values.ensures ∙ ap (λ vs. c.push_tables.new.fates.items ++ flat_map stay_value vs) c.as_slice-2.ensures)
    (c.in_ok-push_stays.ensures ∙ ap (λ n. c.push_values.new.fates.items ++ replicate n Stays) c.len.ensures)
