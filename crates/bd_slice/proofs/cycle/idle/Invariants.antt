use Rattle.std.proofs.Common.{map, take}
use Rattle.bd_model.specs.ExprView.{expr_view}
use Rattle.bd_model.specs.Value.{value_of, scalar_of}
use Rattle.bd_model.specs.declared.design.Port.{Port}
use Rattle.bd_slice.specs.inner.Followed.{Grows, FollowsInputs}
use Rattle.bd_slice.specs.inner.Env.{InOthers}
use Rattle.bd_slice.proofs.cycle.idle.Given as goal

abbrev pub invariant-loop-port : goal.invariant-loop-port
invariant-loop-port l = record {
  grows : Grows l.initial.graph.nodes l.graph.nodes;
  follows : InOthers l.graph.nodes l.names (λ o env. FollowsInputs o l.inputs.items (map (λ (p : Port). scalar_of (value_of env (expr_view p.idle))) (take l.port-index l.port-items)));
}
