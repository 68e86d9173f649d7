use Rattle.std.proofs.Common.{◌∙◌}
use Rattle.std.proofs.lemmas.Slice.Zip.{either_empty_from_Zip}
use Rattle.std.specs.Iterator.Adapters.{zip_first, zip_second}
use Rattle.std.specs.Slice.Iter.{iter_rest}
use Rattle.bd_model.specs.declared.table.Table.{Table}
use Rattle.bd_model.specs.declared.design.Entry.{Entry}
use Rattle.bd_case.specs.Content.{value_of_table}
use Rattle.bd_case.proofs.TwoLists.{zip_end}
use Rattle.bd_case.proofs.whole.state.Goals as goal

pub returns : goal.returns
returns c =
    c.from_vec.ensures
    ∙ zip_end (λ (p : Entry × Table). value_of_table p.0.sort p.1) c.loop-entry.state.items (iter_rest (zip_first c.loop-entry.entry-iterator)) (iter_rest (zip_second c.loop-entry.entry-iterator)) _
    (either_empty_from_Zip c.loop-entry.entry-iterator c.next.new.self c.next.result c.in-None.is c.next.ensures.steps) c.loop-entry.invariant
