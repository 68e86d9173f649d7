use Rattle.std.specs.Iterator.Adapters.{zip_first, zip_second}
use Rattle.std.specs.Slice.Iter.{iter_rest}
use Rattle.bd_model.proofs.Pairs.{IsLeft}
use Rattle.bd_diagram.specs.Alike.{IsSameDifference}
use Rattle.bd_diagram.proofs.alike.same_differences.Given as goal

abbrev pub invariant-loop-difference : goal.invariant-loop-difference
invariant-loop-difference l =
    IsLeft IsSameDifference l.first (iter_rest (zip_first l.difference-iterator)) l.second (iter_rest (zip_second l.difference-iterator))
