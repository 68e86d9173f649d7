use Rattle.std.proofs.lemmas.Slice.Zip.{either_empty_from_Zip}
use Rattle.std.specs.Iterator.Adapters.{zip_first, zip_second}
use Rattle.std.specs.Slice.Iter.{iter_rest}
use Rattle.bd_shrink.proofs.Differing.{values_end}
use Rattle.bd_shrink.proofs.apart.push_where.Goals as goal

pub returns : goal.returns
returns c =
    values_end c.loop-difference.values.items _ (iter_rest (zip_first c.loop-difference.difference-iterator)) (iter_rest (zip_second c.loop-difference.difference-iterator))
    (either_empty_from_Zip c.loop-difference.difference-iterator c.next.new.self c.next.result c.in-None.is c.next.ensures.steps) c.loop-difference.invariant
