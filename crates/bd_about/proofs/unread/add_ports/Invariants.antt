use Rattle.std.proofs.Common.{map, drop}
use Rattle.bd_model.specs.DesignView.{PortView, port_view}
use Rattle.bd_about.specs.Named.{any_of}
use Rattle.bd_about.proofs.Marking.{Left}
use Rattle.bd_about.proofs.unread.add_ports.Given as goal

abbrev pub invariant-loop-port : goal.invariant-loop-port
invariant-loop-port l =
    Left l.initial.marks l.marks (λ x. any_of x (map (λ (p : PortView). p.idle) (map port_view (drop l.port-index l.ports)))) (λ x. any_of x (map (λ (p : PortView). p.idle) (map port_view l.ports)))
