use Rattle.std.proofs.Common.{◌≡◌, ◌++◌, map, drop}
use Rattle.bd_model.specs.ExprView.{expr_view, expr_views, list_of_views}
use Rattle.bd_model.specs.Value.{value_of}
use Rattle.bd_sim.specs.inner.Env.{env_view}
use Rattle.bd_sim.proofs.value.values.Given as goal

abbrev pub invariant-loop-expr : goal.invariant-loop-expr
invariant-loop-expr l =
    l.values.items ++ map (value_of (env_view l.env)) (map expr_view (drop l.expr-index l.expr-items)) ≡ map (value_of (env_view l.env)) (list_of_views (expr_views l.exprs))
