use Rattle.std.proofs.Common.{◌≡◌, ◌++◌}
use Rattle.std.specs.List.{flat_map}
use Rattle.std.specs.Iterator.Adapters.{zip_first, zip_second}
use Rattle.std.specs.Slice.Iter.{iter_rest}
use Rattle.bd_case.specs.Text.{state_line, state_nodes}
use Rattle.bd_case.proofs.write.state_text.Given as goal

abbrev pub invariant-loop-entry : goal.invariant-loop-entry
invariant-loop-entry l =
    l.text.items ++ flat_map state_line (state_nodes (iter_rest (zip_first l.entry-iterator)) (iter_rest (zip_second l.entry-iterator)))
    ≡ flat_map state_line (state_nodes l.design.pipe.entries l.state)
