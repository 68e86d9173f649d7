-- Operators with another number of parts than they take.
use Rattle.std.proofs.Common.{◌≡◌, ◌≢◌, ℕ, false, List, [], ◌∷◌, length, map, refl, arith, ◌≤◌, set, sym, ap, ◌∙◌, rules, Vec, Global}
use Rattle.std.proofs.lemmas.List.{map-set, set_past, length-map}
use Rattle.bd_model.proofs.Views.{list_of-list}
use Rattle.bd_model.specs.ExprView.{ExprView, Truth, expr_view, expr_views, views_of_list, list_of_views}
use Rattle.bd_model.specs.ExprView as view
use Rattle.bd_model.specs.declared.expr.Expr as expr
use Rattle.bd_model.specs.declared.expr.Expr.{the_lemmas}
use Rattle.bd_model.specs.declared.expr.Exprs.{roll-Exprs}
use Rattle.bd_model.specs.declared.expr.Expr.{Expr}
use Rattle.bd_syntax.specs.declared.operator.Operator.{Operator}
use Rattle.bd_typer.specs.Typing.{of_one_part, of_two_parts, of_three_parts}

pub not_one : (xs : List Expr) → length xs ≢ 1 → of_one_part (map expr_view xs) ≡ Truth false
not_one [] h = refl
not_one (a ∷ []) h = absurd (h refl)
not_one (a ∷ b ∷ xs) h = refl

pub not_two : (op : Operator) (xs : List Expr) → length xs ≢ 2 → of_two_parts op (map expr_view xs) ≡ Truth false
not_two op [] h = refl
not_two op (a ∷ []) h = refl
not_two op (a ∷ b ∷ []) h = absurd (h refl)
not_two op (a ∷ b ∷ c ∷ xs) h = refl

pub not_three : (op : Operator) (xs : List Expr) → length xs ≢ 3 → of_three_parts op (map expr_view xs) ≡ Truth false
not_three op [] h = refl
not_three op (a ∷ []) h = refl
not_three op (a ∷ b ∷ []) h = refl
not_three op (a ∷ b ∷ c ∷ []) h = absurd (h refl)
not_three op (a ∷ b ∷ c ∷ d ∷ xs) h = refl

-- expressions over a list, with its parts as clauses see them
pub apply-view : (n : ℕ) (parts : Vec Expr Global) → expr_view (expr.Apply n (roll-Exprs (record { items = parts }))) ≡ view.Apply n (views_of_list (map expr_view parts.items))
apply-view n parts = search (rules, the_lemmas)

pub and-view : (parts : Vec Expr Global) → expr_view (expr.And (roll-Exprs (record { items = parts }))) ≡ view.And (views_of_list (map expr_view parts.items))
and-view parts = search (rules, the_lemmas)

pub or-view : (parts : Vec Expr Global) → expr_view (expr.Or (roll-Exprs (record { items = parts }))) ≡ view.Or (views_of_list (map expr_view parts.items))
or-view parts = search (rules, the_lemmas)

pub exprs-view : (parts : Vec Expr Global) → expr_views (roll-Exprs (record { items = parts })) ≡ views_of_list (map expr_view parts.items)
exprs-view parts = search (rules, the_lemmas)

pub nexts-view : (parts : Vec Expr Global) → list_of_views (expr_views (roll-Exprs (record { items = parts }))) ≡ map expr_view parts.items
nexts-view parts = ap list_of_views (exprs-view parts) ∙ list_of-list (map expr_view parts.items)

pub map_set : (xs : List Expr) (i : ℕ) (x : Expr) → map expr_view (set xs i x) ≡ set (map expr_view xs) i (expr_view x)
map_set xs i x = map-set expr_view xs i x

pub map_past : (xs : List Expr) (i : ℕ) (x : Expr) → length xs ≤ i → map expr_view xs ≡ set (map expr_view xs) i (expr_view x)
map_past xs i x past = sym (set_past (map expr_view xs) i (expr_view x) (omega (arith, length-map xs expr_view)))
