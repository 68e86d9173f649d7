use Rattle.std.proofs.Common.{◌≡◌, ◌++◌}
use Rattle.std.specs.Iterator.Adapters.{zip_first, zip_second}
use Rattle.std.specs.Slice.Iter.{iter_rest}
use Rattle.bd_diagram.specs.Differs.{differences}
use Rattle.bd_diagram.proofs.difference.differences_of.Given as goal

abbrev pub invariant-loop-value : goal.invariant-loop-value
invariant-loop-value l =
    l.differences.items ++ differences (iter_rest (zip_first l.value-iterator)) (iter_rest (zip_second l.value-iterator)) ≡ differences l.first l.second
