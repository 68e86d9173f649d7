use Rattle.std.proofs.Common.{◌≡◌, ◌++◌, map, drop}
use Rattle.bd_model.specs.DesignView.{PortView, port_view}
use Rattle.bd_case.specs.Kinds.{input_kind}
use Rattle.bd_case.proofs.frame.push_ports.Given as goal

abbrev pub invariant-loop-port : goal.invariant-loop-port
invariant-loop-port l =
    l.kinds.items ++ map (λ (p : PortView). input_kind p.sort) (map port_view (drop l.port-index l.ports))
    ≡ l.initial.kinds.items ++ map (λ (p : PortView). input_kind p.sort) (map port_view l.ports)
