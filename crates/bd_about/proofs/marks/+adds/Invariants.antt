use Rattle.std.proofs.Common.{map, drop}
use Rattle.bd_model.specs.ExprView.{expr_view, expr_views, views_of_list}
use Rattle.bd_about.specs.Named.{any_names}
use Rattle.bd_about.proofs.Marking.{Left}
use Rattle.bd_about.proofs.marks.+adds.Given as goal

abbrev pub invariant-add_exprs-loop-expr : goal.invariant-add_exprs-loop-expr
invariant-add_exprs-loop-expr l =
    Left l.initial.marks l.marks (λ x. any_names x (views_of_list (map expr_view (drop l.expr-index l.expr-items)))) (λ x. any_names x (expr_views l.exprs))
