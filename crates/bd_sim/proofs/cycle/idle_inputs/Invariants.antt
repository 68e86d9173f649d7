use Rattle.std.proofs.Common.{◌≡◌, ◌++◌, map, drop}
use Rattle.bd_model.specs.DesignView.{PortView, port_view}
use Rattle.bd_model.specs.Value.{scalar_of, value_of}
use Rattle.bd_sim.specs.inner.Env.{env_view}
use Rattle.bd_sim.proofs.cycle.idle_inputs.Given as goal

abbrev pub invariant-loop-port : goal.invariant-loop-port
invariant-loop-port l =
    l.inputs.items ++ map (λ (p : PortView). scalar_of (value_of (env_view l.env) p.idle)) (map port_view (drop l.port-index l.port-items))
    ≡ map (λ (p : PortView). scalar_of (value_of (env_view l.env) p.idle)) (map port_view l.design.pipe.ports)
