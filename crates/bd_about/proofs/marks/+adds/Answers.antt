use Rattle.std.proofs.Common.{◌≡◌, ◌∙◌, ap, inl, inr, rules}
use Rattle.bd_model.specs.ExprView.{ExprView, Implies, Iff, Equal, Ite, Read, Write, expr_view}
use Rattle.bd_model.specs.declared.expr.Expr.{Expr, the_lemmas}
use Rattle.bd_about.specs.Named.{names}
use Rattle.bd_about.specs.declared.named.Named.{Named}
use Rattle.bd_about.proofs.Marking.{both_of, three_of}
use Rattle.bd_about.proofs.marks.+adds.Goals as goal

named_of : (x : Named) (e f : Expr) (v : ExprView) → e ≡ f → expr_view f ≡ v → names x (expr_view e) ≡ names x v
named_of x e f v h k = ap (λ y. names x (expr_view y)) h ∙ ap (λ y. names x y) k

pub add_expr-returns-in_ok-add_expr-in-Implies : goal.add_expr-returns-in_ok-add_expr-in-Implies
add_expr-returns-in_ok-add_expr-in-Implies t c =
    let a = expr_view c.in-Implies.a.value in
    let b = expr_view c.in-Implies.b.value in
    both_of c.add_expr-in-Implies-2.result c.args.marks.now c.add_expr-in-Implies.new.marks c.add_expr-in-Implies-2.new.marks c.args.expr.now c.in-Implies.a.value c.in-Implies.b.value
    c.deref-in-Implies.result.now c.deref-in-Implies-2.result.now
    (λ x. elim c.in-Implies.is [
      | inl h ↦ named_of x _ _ (Implies a b) h (search (rules, the_lemmas))
      | inr o ↦ elim o [
        | inl h ↦ named_of x _ _ (Iff a b) h (search (rules, the_lemmas))
        | inr p ↦ elim p [ inl h ↦ named_of x _ _ (Equal a b) h (search (rules, the_lemmas)) | inr h ↦ named_of x _ _ (Read a b) h (search (rules, the_lemmas)) ]
      ]
    ])
    c.deref-in-Implies.ensures c.deref-in-Implies-2.ensures c.in_ok-add_expr-in-Implies.ensures c.add_expr-in-Implies-2.ensures

pub add_expr-returns-in_ok-add_expr-in-Ite-2 : goal.add_expr-returns-in_ok-add_expr-in-Ite-2
add_expr-returns-in_ok-add_expr-in-Ite-2 t c =
    let p = expr_view c.in-Ite.a.value in
    let a = expr_view c.in-Ite.b.value in
    let b = expr_view c.in-Ite.c.value in
    three_of c.add_expr-in-Ite-3.result c.args.marks.now c.add_expr-in-Ite.new.marks c.add_expr-in-Ite-2.new.marks c.add_expr-in-Ite-3.new.marks c.args.expr.now c.in-Ite.a.value c.in-Ite.b.value c.in-Ite.c.value
    c.deref-in-Ite.result.now c.deref-in-Ite-2.result.now c.deref-in-Ite-3.result.now
    (λ x. elim c.in-Ite.is [ inl h ↦ named_of x _ _ (Ite p a b) h (search (rules, the_lemmas)) | inr h ↦ named_of x _ _ (Write p a b) h (search (rules, the_lemmas)) ])
    c.deref-in-Ite.ensures c.deref-in-Ite-2.ensures c.deref-in-Ite-3.ensures c.in_ok-add_expr-in-Ite.ensures c.in_ok-add_expr-in-Ite-2.ensures c.add_expr-in-Ite-3.ensures
