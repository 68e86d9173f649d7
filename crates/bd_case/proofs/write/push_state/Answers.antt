use Rattle.std.proofs.lemmas.Slice.Zip.{either_empty_from_Zip}
use Rattle.std.specs.Iterator.Adapters.{zip_first, zip_second}
use Rattle.std.specs.Slice.Iter.{iter_rest}
use Rattle.bd_case.specs.Text.{entry_line}
use Rattle.bd_case.proofs.TwoLists.{state_end}
use Rattle.bd_case.proofs.write.push_state.Goals as goal

pub returns-clause-text : goal.returns-clause-text
returns-clause-text c =
    state_end entry_line c.loop-entry.out.items (iter_rest (zip_first c.loop-entry.entry-iterator)) (iter_rest (zip_second c.loop-entry.entry-iterator)) _
    (either_empty_from_Zip c.loop-entry.entry-iterator c.next.new.self c.next.result c.in-None.is c.next.ensures.steps) c.loop-entry.invariant.text
