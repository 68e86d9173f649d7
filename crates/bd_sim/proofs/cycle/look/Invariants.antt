use Rattle.std.proofs.Common.{◌≡◌, ◌++◌, false, map, drop, get_or}
use Rattle.bd_model.specs.Value.{truth}
use Rattle.bd_sim.proofs.cycle.look.Given as goal

abbrev pub invariant-loop-place : goal.invariant-loop-place
invariant-loop-place l =
    l.visible.items ++ map (λ i. get_or l.state i (truth false)) (drop l.place-index l.place-items) ≡ map (λ i. get_or l.state i (truth false)) l.design.visible
