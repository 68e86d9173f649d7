-- Designs with another conjunct in their invariant: they're lawful, and with its own again they are what they were.
use Rattle.std.proofs.Common.{◌≡◌, ◌≤◌, ◌<◌, ◌∙◌, ℕ, zero, suc, true, List, [], ◌∷◌, length, map, max, set, get_or, slice_get, Some, ◌++◌, refl, ap, subst, arith}
use Rattle.std.proofs.lemmas.List.{length-map, map-set}
use Rattle.std.proofs.lemmas.Option.{none-some, same_Some}
use Rattle.std.specs.Vec.{with_item}
use Rattle.bd_model.specs.declared.expr.Expr.{Expr}
use Rattle.bd_model.specs.declared.expr.Exprs.{Exprs, out-Exprs, roll-Exprs}
use Rattle.bd_model.proofs.Views.{expr_views-items}
use Rattle.bd_model.specs.DesignView.{DesignView}
use Rattle.bd_model.specs.ExprView.{ExprView, ExprViews, And, Truth, count_of, depth, expr, expr_view, expr_views, exprs_depth, exprs_width, no_exprs, views_of_list, width}
use Rattle.bd_model.specs.Lawful.{Context, HasSort, HaveSort, IsLawful, IsWithinLimits, inv_context}
use Rattle.bd_model.specs.declared.design.Sort.TheVariants as sort
use Rattle.bd_about.specs.Changed.{exprs_with, with_conjunct, without_conjunct}
use Rattle.bd_about.specs.inner.Conjuncts.{conjunct_or, expr_or}
use Rattle.bd_about.proofs.Changed.{changed_lawful}

count_list : (es : List ExprView) → count_of (views_of_list es) ≡ length es
count_list [] = refl
count_list (e ∷ es) = ap suc (count_list es)

-- what holds of each item by its place, and of one that is pushed
pub each_more : {X : Type 0} (P : ℕ → X → Type 0) (xs : List X) (x : X) → ((i : ℕ) (y : X) → slice_get xs i ≡ Some y → P i y) → P (length xs) x
    → (i : ℕ) (y : X) → slice_get (xs ++ x ∷ []) i ≡ Some y → P i y
each_more P [] x all at zero y is = subst (P 0) (same_Some x y is) at
each_more P [] x all at (suc i) y is = absurd (none-some y is)
each_more P (z ∷ zs) x all at zero y is = all zero y is
each_more P (z ∷ zs) x all at (suc i) y is = each_more (λ k. P (suc k)) zs x (λ k v e. all (suc k) v e) at i y is

-- a part that is put back
exprs_again : (es : ExprViews) (i : ℕ) (part : ExprView) → exprs_with (exprs_with es i part) i (expr_or es i part) ≡ es
exprs_again no_exprs i part = refl
exprs_again (expr e es) zero part = refl
exprs_again (expr e es) (suc i) part = ap (expr e) (exprs_again es i part)

pub conjunct_again : (e : ExprView) (i : ℕ) (part : ExprView) → with_conjunct (with_conjunct e i part) i (conjunct_or e i part) ≡ e
conjunct_again (And es) i part = ap And (exprs_again es i part)
conjunct_again e i part = refl

-- the views of a list that was changed at a place
pub views_set : (es : List ExprView) (i : ℕ) (part : ExprView) → views_of_list (set es i part) ≡ exprs_with (views_of_list es) i part
views_set [] i part = refl
views_set (e ∷ es) zero part = refl
views_set (e ∷ es) (suc i) part = ap (expr e) (views_set es i part)

-- nothing stands past the last place
pub views_past : (es : List ExprView) (i : ℕ) (part : ExprView) → length es ≤ i → exprs_with (views_of_list es) i part ≡ views_of_list es
views_past [] i part past = refl
views_past (e ∷ es) zero part past = absurd (omega arith)
views_past (e ∷ es) (suc i) part past = ap (expr e) (views_past es i part (omega arith))

past_or : (es : List ExprView) (i : ℕ) (other : ExprView) → length es ≤ i → expr_or (views_of_list es) i other ≡ other
past_or [] i other past = refl
past_or (e ∷ es) zero other past = absurd (omega arith)
past_or (e ∷ es) (suc i) other past = past_or es i other (omega arith)

-- the view of an item of a list
item_view : (xs : List Expr) (i : ℕ) (x : Expr) (other : ExprView) → x ≡ get_or xs i x → i < length xs → expr_view x ≡ expr_or (views_of_list (map expr_view xs)) i other
item_view [] i x other is lt = absurd (omega arith)
item_view (y ∷ ys) zero x other is lt = ap expr_view is
item_view (y ∷ ys) (suc i) x other is lt = item_view ys i x other is (omega arith)

-- ---- parts of an expression

pub parts_with : (es : Exprs) (i : ℕ) (e : Expr) → expr_views (roll-Exprs (record { items = with_item (out-Exprs es).items i e })) ≡ exprs_with (expr_views es) i (expr_view e)
parts_with es i e =
    rw (expr_views-items (roll-Exprs (record { items = with_item (out-Exprs es).items i e })), expr_views-items es, map-set expr_view (out-Exprs es).items.items i e)
    (views_set (map expr_view (out-Exprs es).items.items) i (expr_view e))

pub part_at : (es : Exprs) (i : ℕ) (x : Expr) (other : ExprView) → x ≡ get_or (out-Exprs es).items.items i x → i < length (out-Exprs es).items.items → expr_view x ≡ expr_or (expr_views es) i other
part_at es i x other is lt = rw (expr_views-items es) (item_view (out-Exprs es).items.items i x other is lt)

pub parts_past : (es : Exprs) (i : ℕ) (part : ExprView) → length (out-Exprs es).items.items ≤ i → exprs_with (expr_views es) i part ≡ expr_views es
parts_past es i part past =
    rw (expr_views-items es) (views_past (map expr_view (out-Exprs es).items.items) i part (omega (arith, past, length-map (out-Exprs es).items.items expr_view)))

pub part_past : (es : Exprs) (i : ℕ) (other : ExprView) → length (out-Exprs es).items.items ≤ i → expr_or (expr_views es) i other ≡ other
part_past es i other past =
    rw (expr_views-items es) (past_or (map expr_view (out-Exprs es).items.items) i other (omega (arith, past, length-map (out-Exprs es).items.items expr_view)))

pub count_parts : (es : Exprs) → count_of (expr_views es) ≡ length (out-Exprs es).items.items
count_parts es = rw (expr_views-items es) (count_list (map expr_view (out-Exprs es).items.items) ∙ length-map (out-Exprs es).items.items expr_view)

-- ---- sorts and limits

count_with : (es : ExprViews) (i : ℕ) (part : ExprView) → count_of (exprs_with es i part) ≡ count_of es
count_with no_exprs i part = refl
count_with (expr e es) zero part = refl
count_with (expr e es) (suc i) part = ap suc (count_with es i part)

sorts_with : (c : Context) (es : ExprViews) (i : ℕ) → HaveSort c es sort.Bool → HaveSort c (exprs_with es i (Truth true)) sort.Bool
sorts_with c no_exprs i h = tt
sorts_with c (expr e es) zero h = (refl, h.1)
sorts_with c (expr e es) (suc i) h = (h.0, sorts_with c es i h.1)

depth_with : (es : ExprViews) (i : ℕ) → exprs_depth (exprs_with es i (Truth true)) ≤ exprs_depth es
depth_with no_exprs i = omega arith
depth_with (expr e es) zero = omega arith
depth_with (expr e es) (suc i) = let less = depth_with es i in omega arith

width_with : (es : ExprViews) (i : ℕ) → exprs_width (exprs_with es i (Truth true)) ≤ exprs_width es
width_with no_exprs i = omega arith
width_with (expr e es) zero = omega arith
width_with (expr e es) (suc i) = let less = width_with es i in omega arith

sort_without : (c : Context) (e : ExprView) (i : ℕ) → HasSort c e sort.Bool → HasSort c (with_conjunct e i (Truth true)) sort.Bool
sort_without c (And es) i h = (h.0, rw (count_with es i (Truth true)) h.1, sorts_with c es i h.2)
sort_without c e i h = h

limits_without : (e : ExprView) (i : ℕ) → IsWithinLimits e → IsWithinLimits (with_conjunct e i (Truth true))
limits_without (And es) i h =
    let deep = depth_with es i in
    let wide = width_with es i in
    let many = count_with es i (Truth true) in
    (omega (arith, h.0), omega (arith, h.1))
limits_without e i h = h

pub without_conjunct_lawful : (d : DesignView) (i : ℕ) → IsLawful d → IsLawful (without_conjunct d i)
without_conjunct_lawful d i h =
    changed_lawful d d.flush d.steps d.exact d.inv_locals (with_conjunct d.inv i (Truth true)) h h.flush h.steps h.exact h.short.2
    h.inv_locals (sort_without (inv_context d) d.inv i h.inv) h.inv_local_limits (limits_without d.inv i h.inv_limits) h.short.1
