use Rattle.std.proofs.Common.{◌≡◌, ◌∙◌, length, ap, sym, rules, arith}
use Rattle.bd_model.specs.ExprView.{And, expr_view, expr_views}
use Rattle.bd_model.specs.declared.expr.Expr.{the_lemmas}
use Rattle.bd_about.specs.Changed.{conjunct_count}
use Rattle.bd_about.proofs.WithParts.{count_parts}
use Rattle.bd_about.proofs.conjuncts.conjunct_count.Goals as goal

pub returns-in-And : goal.returns-in-And
returns-in-And c =
    let view : expr_view c.args.inv.now ≡ And (expr_views c.in-And.parts) = search (rules, the_lemmas) in
    let count : c.len.result ≡ length c.in-And.parts.items.items = omega arith in
    count ∙ sym (count_parts c.in-And.parts) ∙ sym (ap conjunct_count view)
