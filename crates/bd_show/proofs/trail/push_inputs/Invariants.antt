use Rattle.std.proofs.Common.{◌≡◌, ◌++◌, map}
use Rattle.std.specs.Iterator.Adapters.{zip_first, zip_second}
use Rattle.std.specs.Slice.Iter.{iter_rest}
use Rattle.bd_model.specs.DesignView.{port_view}
use Rattle.bd_show.specs.Trails.{inputs_text}
use Rattle.bd_show.proofs.trail.push_inputs.Given as goal

abbrev pub invariant-loop-port : goal.invariant-loop-port
invariant-loop-port l =
    l.out.items ++ inputs_text (map port_view (iter_rest (zip_first l.port-iterator))) (iter_rest (zip_second l.port-iterator))
    ≡ l.initial.out.items ++ inputs_text (map port_view l.ports) l.inputs
