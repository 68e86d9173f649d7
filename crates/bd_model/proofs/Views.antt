-- Lists of expressions beside their views and values.
use Rattle.std.proofs.Common.{◌≡◌, List, [], ◌∷◌, map, refl, ap, rules}
use Rattle.std.proofs.lemmas.Simd.{map-map}
use Rattle.bd_model.specs.ExprView.{ExprView, expr_view, expr_views, views_of_list, list_of_views}
use Rattle.bd_model.specs.Value.{Env, value_of, values_of}
use Rattle.bd_model.specs.declared.expr.Expr.{the_lemmas}
use Rattle.bd_model.specs.declared.expr.Exprs.{Exprs, out-Exprs}

pub expr_views-items : (es : Exprs) → expr_views es ≡ views_of_list (map expr_view (out-Exprs es).items.items)
expr_views-items es = search (rules, the_lemmas)

pub list_of-list : (ts : List ExprView) → list_of_views (views_of_list ts) ≡ ts
list_of-list [] = refl
list_of-list (t ∷ ts) = ap (λ us. t ∷ us) (list_of-list ts)

pub values_of-list : (e : Env) (ts : List ExprView) → values_of e (views_of_list ts) ≡ map (value_of e) ts
values_of-list e [] = refl
values_of-list e (t ∷ ts) = ap (λ vs. value_of e t ∷ vs) (values_of-list e ts)

-- the values of a list of expressions, one by one
pub values_of-expr_views : (e : Env) (es : Exprs) → values_of e (expr_views es) ≡ map (λ x. value_of e (expr_view x)) (out-Exprs es).items.items
values_of-expr_views e es = rw (expr_views-items es, values_of-list e) (map-map (value_of e) expr_view (out-Exprs es).items.items)

-- the views of a list of expressions, one by one
pub list_of-expr_views : (es : Exprs) → list_of_views (expr_views es) ≡ map expr_view (out-Exprs es).items.items
list_of-expr_views es = rw (expr_views-items es) (list_of-list (map expr_view (out-Exprs es).items.items))
