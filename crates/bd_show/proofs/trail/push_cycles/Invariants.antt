use Rattle.std.proofs.Common.{◌≡◌, ◌+◌, ◌++◌, drop, map}
use Rattle.bd_model.specs.DesignView.{port_view}
use Rattle.bd_show.specs.Trails.{cycles_text}
use Rattle.bd_show.proofs.trail.push_cycles.Given as goal

abbrev pub invariant-loop-at : goal.invariant-loop-at
invariant-loop-at l =
    l.out.items ++ cycles_text (map port_view l.ports) (l.at + 1) (drop l.at l.cycles)
    ≡ l.initial.out.items ++ cycles_text (map port_view l.ports) 1 l.cycles
