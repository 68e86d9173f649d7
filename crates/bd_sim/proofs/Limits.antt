-- The parts of expressions within the limits are within them.
use Rattle.std.proofs.Common.{◌≡◌, ℕ, zero, suc, ◌<◌, List, [], ◌∷◌, map, length, get_or, ap, sym, ◌∙◌, subst, arith, rules}
use Rattle.std.specs.List.{AllByRecursion}
use Rattle.bd_model.specs.ExprView.{ExprViews, And, no_exprs, expr, expr_view, expr_views, list_of_views}
use Rattle.bd_model.specs.Lawful.{IsWithinLimits}
use Rattle.bd_model.specs.declared.expr.Expr.{Expr, the_lemmas}
use Rattle.bd_model.specs.declared.expr.Expr.TheVariants as form
use Rattle.bd_model.specs.declared.expr.Exprs.{Exprs, out-Exprs}
use Rattle.bd_model.proofs.Views.{list_of-expr_views}

parts_within : (es : ExprViews) → IsWithinLimits (And es) → AllByRecursion IsWithinLimits (list_of_views es)
parts_within no_exprs h = tt
parts_within (expr e es) h =
    ((omega (arith, h.0), omega (arith, h.1)), parts_within es (omega (arith, h.0), omega (arith, h.1)))

and_view : (es : Exprs) → expr_view (form.And es) ≡ And (expr_views es)
and_view es = search (rules, the_lemmas)

-- the parts of an `and`
pub conjuncts_within : (e : Expr) (es : Exprs) → e ≡ form.And es → IsWithinLimits (expr_view e) → AllByRecursion IsWithinLimits (list_of_views (expr_views es))
conjuncts_within e es is h = parts_within (expr_views es) (subst IsWithinLimits (ap expr_view is ∙ and_view es) h)

each_within : (xs : List Expr) (i : ℕ) (x : Expr) → AllByRecursion IsWithinLimits (map expr_view xs) → i < length xs → x ≡ get_or xs i x → IsWithinLimits (expr_view x)
each_within [] i x h within is = absurd (omega (arith, within))
each_within (y ∷ ys) zero x h within is = subst (λ e. IsWithinLimits (expr_view e)) (sym is) h.0
each_within (y ∷ ys) (suc i) x h within is = each_within ys i x h.1 (omega (arith, within)) is

-- an expression of a list of them
pub one_within : (es : Exprs) (xs : List Expr) (i : ℕ) (x : Expr) → xs ≡ (out-Exprs es).items.items → AllByRecursion IsWithinLimits (list_of_views (expr_views es)) → i < length xs → x ≡ get_or xs i x
    → IsWithinLimits (expr_view x)
one_within es xs i x items h within is =
    each_within xs i x (subst (λ ys. AllByRecursion IsWithinLimits (map expr_view ys)) (sym items) (subst (AllByRecursion IsWithinLimits) (list_of-expr_views es) h)) within is
