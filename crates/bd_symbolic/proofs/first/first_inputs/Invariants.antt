use Rattle.std.proofs.Common.{◌+◌, ◌*◌, map, drop, length}
use Rattle.bd_model.specs.DesignView.{design_view, port_view}
use Rattle.bd_terms.specs.declared.node.Sym.TheVariants as symbol
use Rattle.bd_symbolic.specs.States.{port_sorts}
use Rattle.bd_symbolic.specs.Widened.{widened}
use Rattle.bd_symbolic.proofs.Firsts.{FirstsDone, sorts_of_ports}
use Rattle.bd_symbolic.proofs.first.first_inputs.Given as goal

abbrev pub invariant-loop-port : goal.invariant-loop-port
invariant-loop-port l = FirstsDone (widened (design_view l.design) (l.cycle + 1)) symbol.Input (l.cycle * length (design_view l.design).pipe.ports) l.fn.graph l.graph (port_sorts (design_view l.design).pipe) (sorts_of_ports (map port_view (drop l.port-index l.port-items))) l.port-index l.inputs
