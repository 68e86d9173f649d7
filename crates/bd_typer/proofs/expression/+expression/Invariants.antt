use Rattle.std.proofs.Common.{◌≡◌, map, drop}
use Rattle.std.specs.Prelude.{vec_len}
use Rattle.bd_model.specs.ExprView.{expr_view}
use Rattle.bd_syntax.specs.Forms.{expression_of, expressions_of_all}
use Rattle.bd_syntax.specs.WellFormed.{expression_nesting}
use Rattle.bd_typer.specs.Typing.{typed_parts}
use Rattle.bd_typer.specs.inner.Held.{lookup_names}
use Rattle.bd_typer.proofs.Loops.{with_front}
use Rattle.bd_typer.proofs.expression.+expression.Given as goal

abbrev pub decreases-expression : goal.decreases-expression
decreases-expression l = expression_nesting (expression_of l.form.now)

abbrev pub invariant-loop-part : goal.invariant-loop-part
invariant-loop-part l =
    with_front (map expr_view l.exprs.items) (typed_parts (lookup_names l.names) l.inputs l.how l.want (vec_len l.exprs) (expressions_of_all (drop l.part-index l.part-items)))
    ≡ typed_parts (lookup_names l.names) l.inputs l.how l.want 0 (expressions_of_all l.part-items)
