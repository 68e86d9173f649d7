use Rattle.std.proofs.lemmas.Slice.Zip.{either_empty_from_Zip}
use Rattle.std.specs.Iterator.Adapters.{zip_first, zip_second}
use Rattle.std.specs.Slice.Iter.{iter_rest}
use Rattle.bd_show.proofs.Inputs.{inputs_end}
use Rattle.bd_show.proofs.trail.push_inputs.Goals as goal

pub returns : goal.returns
returns c =
    inputs_end c.loop-port.out.items (iter_rest (zip_first c.loop-port.port-iterator)) (iter_rest (zip_second c.loop-port.port-iterator)) _
    (either_empty_from_Zip c.loop-port.port-iterator c.next.new.self c.next.result c.in-None.is c.next.ensures.steps) c.loop-port.invariant
