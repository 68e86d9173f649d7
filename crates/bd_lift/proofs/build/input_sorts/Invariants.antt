use Rattle.std.proofs.Common.{◌≡◌, ◌++◌, map, take}
use Rattle.bd_model.specs.declared.design.Port.{Port}
use Rattle.bd_symbolic.specs.Widened.{repeated}
use Rattle.bd_lift.proofs.build.input_sorts.Given as goal

abbrev pub invariant-loop : goal.invariant-loop
invariant-loop l = l.sorts.items ≡ repeated l.counter (map (λ (p : Port). p.sort) l.ports)

abbrev pub invariant-loop-port : goal.invariant-loop-port
invariant-loop-port l = l.sorts.items ≡ repeated l.counter (map (λ (p : Port). p.sort) l.ports) ++ map (λ (p : Port). p.sort) (take l.port-index l.ports)
