use Rattle.std.specs.Iterator.Adapters.{zip_first, zip_second}
use Rattle.std.specs.Slice.Iter.{iter_rest}
use Rattle.bd_model.proofs.Pairs.{IsLeft}
use Rattle.bd_diagram.specs.Alike.{IsAlike}
use Rattle.bd_diagram.proofs.alike.are_alike.Given as goal

abbrev pub invariant-loop-comparison : goal.invariant-loop-comparison
invariant-loop-comparison l =
    IsLeft IsAlike l.first (iter_rest (zip_first l.comparison-iterator)) l.second (iter_rest (zip_second l.comparison-iterator))
