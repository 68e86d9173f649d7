use Rattle.std.proofs.Common.{map, drop}
use Rattle.bd_model.specs.DesignView.{design_view, port_view}
use Rattle.bd_symbolic.specs.Symbolic.{terms_of}
use Rattle.bd_symbolic.proofs.Cycles.{idles}
use Rattle.bd_symbolic.proofs.Gathering.{ExprsDone}
use Rattle.bd_symbolic.proofs.flush.idle_terms.Given as goal

abbrev pub invariant-loop-port : goal.invariant-loop-port
invariant-loop-port l = ExprsDone l.fn.graph l.graph (terms_of (design_view l.design) l.state l.lets) (idles (map port_view l.ports)) (idles (map port_view (drop l.port-index l.port-items))) l.inputs
