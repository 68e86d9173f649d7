use Rattle.std.proofs.Common.{map, take}
use Rattle.bd_model.specs.ExprView.{expr_view}
use Rattle.bd_model.specs.Value.{value_of}
use Rattle.bd_slice.specs.inner.Followed.{Grows, FollowsState}
use Rattle.bd_slice.specs.inner.Env.{InOthers}
use Rattle.bd_slice.proofs.cycle.trace_each.Given as goal

abbrev pub invariant-loop-expr : goal.invariant-loop-expr
invariant-loop-expr l = record {
  grows : Grows l.fn.graph.nodes l.graph.nodes;
  follows : InOthers l.graph.nodes l.names (λ o env. FollowsState o l.values.items (map (λ x. value_of env (expr_view x)) (take l.expr-index l.expr-items)));
}
