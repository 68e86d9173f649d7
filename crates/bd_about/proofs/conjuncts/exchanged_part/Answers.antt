use Rattle.std.proofs.Common.{◌≡◌, ◌∙◌, ap, sym, subst, rules, arith}
use Rattle.std.specs.Vec.{with_item}
use Rattle.bd_model.specs.ExprView.{And, expr_view, expr_views}
use Rattle.bd_model.specs.declared.expr.Expr.{Expr, the_lemmas}
use Rattle.bd_model.specs.declared.expr.Expr.TheVariants as form
use Rattle.bd_model.specs.declared.expr.Exprs.{Exprs, roll-Exprs}
use Rattle.bd_about.specs.Changed.{exprs_with}
use Rattle.bd_about.proofs.WithParts.{part_at, part_past, parts_past, parts_with}
use Rattle.bd_about.proofs.conjuncts.exchanged_part.Goals as goal

conjoined : (es : Exprs) → expr_view (form.And es) ≡ And (expr_views es)
conjoined es = search (rules, the_lemmas)

pub returns-then-place-len-clause-with : goal.returns-then-place-len-clause-with
returns-then-place-len-clause-with c =
    subst (λ (e : Expr). expr_view (form.And (roll-Exprs (record { items = with_item c.args.parts.items c.args.place c.replace-before.new.dest }))) ≡ And (exprs_with (expr_views c.args.parts) c.args.place (expr_view e))) c.replace-before.ensures.after
    (conjoined _ ∙ ap And (parts_with c.args.parts c.args.place c.replace-before.new.dest))

pub returns-then-place-len-clause-before : goal.returns-then-place-len-clause-before
returns-then-place-len-clause-before c =
    ap expr_view c.replace-before.ensures.value
    ∙ part_at c.args.parts c.args.place c.index_mut.result.now (expr_view c.args.part) c.index_mut.ensures.value (omega arith)

pub returns-else-place-len-clause-with : goal.returns-else-place-len-clause-with
returns-else-place-len-clause-with c =
    conjoined c.args.parts ∙ sym (ap And (parts_past c.args.parts c.args.place (expr_view c.args.part) (omega arith)))

pub returns-else-place-len-clause-before : goal.returns-else-place-len-clause-before
returns-else-place-len-clause-before c = sym (part_past c.args.parts c.args.place (expr_view c.args.part) (omega arith))
