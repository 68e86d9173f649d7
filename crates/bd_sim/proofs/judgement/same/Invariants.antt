use Rattle.std.specs.Iterator.Adapters.{zip_first, zip_second}
use Rattle.std.specs.Slice.Iter.{iter_rest}
use Rattle.bd_model.specs.Same.{SameValue}
use Rattle.bd_model.proofs.Pairs.{IsLeft}
use Rattle.bd_sim.proofs.judgement.same.Given as goal

abbrev pub invariant-loop-value : goal.invariant-loop-value
invariant-loop-value l =
    IsLeft SameValue l.first (iter_rest (zip_first l.value-iterator)) l.second (iter_rest (zip_second l.value-iterator))
