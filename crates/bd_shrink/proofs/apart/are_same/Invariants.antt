use Rattle.std.specs.Iterator.Adapters.{zip_first, zip_second}
use Rattle.std.specs.Slice.Iter.{iter_rest}
use Rattle.bd_model.proofs.Pairs.{IsLeft}
use Rattle.bd_shrink.specs.inner.Found.{IsSameScalar}
use Rattle.bd_shrink.proofs.apart.are_same.Given as goal

abbrev pub invariant-loop-scalar : goal.invariant-loop-scalar
invariant-loop-scalar l =
    IsLeft IsSameScalar l.first (iter_rest (zip_first l.scalar-iterator)) l.second (iter_rest (zip_second l.scalar-iterator))
