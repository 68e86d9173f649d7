use Rattle.std.proofs.Common.{◌∙◌}
use Rattle.std.proofs.lemmas.Slice.Zip.{either_empty_from_Zip}
use Rattle.std.specs.Iterator.Adapters.{zip_first, zip_second}
use Rattle.std.specs.Slice.Iter.{iter_rest}
use Rattle.bd_diagram.proofs.Differing.{differences_end}
use Rattle.bd_diagram.proofs.difference.differences_of.Goals as goal

pub returns : goal.returns
returns c =
    c.from_vec.ensures
    ∙ differences_end c.loop-value.differences.items _ (iter_rest (zip_first c.loop-value.value-iterator)) (iter_rest (zip_second c.loop-value.value-iterator))
    (either_empty_from_Zip c.loop-value.value-iterator c.next.new.self c.next.result c.in-None.is c.next.ensures.steps) c.loop-value.invariant
