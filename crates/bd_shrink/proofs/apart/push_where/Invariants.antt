use Rattle.std.proofs.Common.{◌≡◌, ◌++◌}
use Rattle.std.specs.Iterator.Adapters.{zip_first, zip_second}
use Rattle.std.specs.Slice.Iter.{iter_rest}
use Rattle.bd_shrink.specs.Apart.{values_where}
use Rattle.bd_shrink.proofs.apart.push_where.Given as goal

abbrev pub invariant-loop-difference : goal.invariant-loop-difference
invariant-loop-difference l =
    l.values.items ++ values_where (iter_rest (zip_first l.difference-iterator)) (iter_rest (zip_second l.difference-iterator)) ≡ l.fn.values.items ++ values_where l.differences l.state
