use Rattle.std.proofs.Common.{◌≡◌, map, drop}
use Rattle.bd_model.specs.ExprView.{expr_view, expr_views, views_of_list}
use Rattle.bd_model.specs.Lawful.{any_uses_input}
use Rattle.bd_typer.proofs.inputs.+uses.Given as goal

abbrev pub invariant-any_uses_input-loop-expr : goal.invariant-any_uses_input-loop-expr
invariant-any_uses_input-loop-expr l =
    any_uses_input l.flags (views_of_list (map expr_view (drop l.expr-index l.expr-items))) ≡ any_uses_input l.flags (expr_views l.exprs)
