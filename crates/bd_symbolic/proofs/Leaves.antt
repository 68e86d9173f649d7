-- Names in expressions, the views of forms, and lists of parts.
use Rattle.std.proofs.Common.{◌≡◌, ℕ, zero, suc, ◌<◌, Bool, false, List, [], ◌∷◌, map, length, Ok, Some, Box, Global, ap, sym, ◌∙◌, subst, arith, rules}
use Rattle.std.specs.Prelude.{slice_get, slice_index_or}
use Rattle.std.proofs.lemmas.Option.{slice_get-get_or}
use Rattle.bd_model.specs.ExprView.{ExprView, Truth, Entry, Input, Local, Not, And, Or, Implies, Iff, Equal, Ite, Read, Write, Apply, expr_view, expr_views}
use Rattle.bd_model.specs.declared.expr.Expr.{Expr, the_lemmas}
use Rattle.bd_model.specs.declared.expr.Expr.TheVariants as form
use Rattle.bd_model.specs.declared.expr.Exprs.{Exprs}
use Rattle.bd_model.specs.Value.{Env, value_of, truth}
use Rattle.bd_model.specs.Lawful.{HasSort}
use Rattle.bd_model.specs.declared.design.Sort.{Sort}
use Rattle.bd_model.specs.declared.table.Scalar.TheVariants as scalar
use Rattle.bd_model.specs.declared.table.Value.TheVariants as value
use Rattle.bd_model.proofs.Pairs.{AllZip-at}
use Rattle.bd_terms.specs.declared.node.Node.{Node}
use Rattle.bd_terms.specs.Graph.{sort_at}
use Rattle.bd_terms.specs.Denotation.{World, denoted}
use Rattle.bd_symbolic.specs.World.{denotes_value}
use Rattle.bd_symbolic.specs.Made.{IsMade}
use Rattle.bd_symbolic.specs.Symbolic.{Terms, AreInside, DenoteEnv, context_in}
use Rattle.bd_symbolic.specs.inner.Evaluates.{Evaluates, IsReady}
use Rattle.bd_symbolic.proofs.Growing.{Grows-self}

pub expr_view-Bool : (b : Bool) → expr_view (form.Bool b) ≡ Truth b
expr_view-Bool b = search (rules, the_lemmas)

pub expr_view-Entry : (i : ℕ) → expr_view (form.Entry i) ≡ Entry i
expr_view-Entry i = search (rules, the_lemmas)

pub expr_view-Input : (i : ℕ) → expr_view (form.Input i) ≡ Input i
expr_view-Input i = search (rules, the_lemmas)

pub expr_view-Local : (i : ℕ) → expr_view (form.Local i) ≡ Local i
expr_view-Local i = search (rules, the_lemmas)

pub expr_view-Not : (a : Box Expr Global) → expr_view (form.Not a) ≡ Not (expr_view a.value)
expr_view-Not a = search (rules, the_lemmas)

pub expr_view-And : (es : Exprs) → expr_view (form.And es) ≡ And (expr_views es)
expr_view-And es = search (rules, the_lemmas)

pub expr_view-Or : (es : Exprs) → expr_view (form.Or es) ≡ Or (expr_views es)
expr_view-Or es = search (rules, the_lemmas)

pub expr_view-Implies : (a b : Box Expr Global) → expr_view (form.Implies a b) ≡ Implies (expr_view a.value) (expr_view b.value)
expr_view-Implies a b = search (rules, the_lemmas)

pub expr_view-Iff : (a b : Box Expr Global) → expr_view (form.Iff a b) ≡ Iff (expr_view a.value) (expr_view b.value)
expr_view-Iff a b = search (rules, the_lemmas)

pub expr_view-Equal : (a b : Box Expr Global) → expr_view (form.Equal a b) ≡ Equal (expr_view a.value) (expr_view b.value)
expr_view-Equal a b = search (rules, the_lemmas)

pub expr_view-Ite : (p a b : Box Expr Global) → expr_view (form.Ite p a b) ≡ Ite (expr_view p.value) (expr_view a.value) (expr_view b.value)
expr_view-Ite p a b = search (rules, the_lemmas)

pub expr_view-Read : (a b : Box Expr Global) → expr_view (form.Read a b) ≡ Read (expr_view a.value) (expr_view b.value)
expr_view-Read a b = search (rules, the_lemmas)

pub expr_view-Write : (p a b : Box Expr Global) → expr_view (form.Write p a b) ≡ Write (expr_view p.value) (expr_view a.value) (expr_view b.value)
expr_view-Write p a b = search (rules, the_lemmas)

pub expr_view-Apply : (f : ℕ) (es : Exprs) → expr_view (form.Apply f es) ≡ Apply f (expr_views es)
expr_view-Apply f es = search (rules, the_lemmas)

map_inside : {A B : Type 0} (f : A → B) (xs : List A) (i : ℕ) (y : B) → slice_get (map f xs) i ≡ Some y → i < length xs
map_inside f [] i y h = absurd (cc h)
map_inside f (x ∷ xs) zero y h = omega arith
map_inside f (x ∷ xs) (suc i) y h = omega (arith, map_inside f xs i y h)

map_at : {A B : Type 0} (f : A → B) (xs : List A) (i : ℕ) (x : A) (y : B) → slice_get xs i ≡ Some x → slice_get (map f xs) i ≡ Some y → f x ≡ y
map_at f [] i x y h k = absurd (cc h)
map_at f (z ∷ xs) zero x y h k = let same : z ≡ x = cc in ap f (sym same) ∙ cc
map_at f (z ∷ xs) (suc i) x y h k = map_at f xs i x y h k

inside_at : (nodes : List Node) (ids : List ℕ) (i x : ℕ) → AreInside nodes ids → slice_get ids i ≡ Some x → x < length nodes
inside_at nodes [] i x h k = absurd (cc k)
inside_at nodes (z ∷ ids) zero x h k = let same : z ≡ x = cc in subst (λ y. y < length nodes) same h.0
inside_at nodes (z ∷ ids) (suc i) x h k = inside_at nodes ids i x h.1 k

-- a name that has a sort has a term
pub entry_bound : (nodes : List Node) (t : Terms) (e : ExprView) (i : ℕ) → e ≡ Entry i → IsReady nodes t e → i < length t.entries
entry_bound nodes t e i is h = map_inside (sort_at nodes) t.entries i h.sorted.0 (subst (λ x. HasSort (context_in nodes t) x h.sorted.0) is h.sorted.1)

pub input_bound : (nodes : List Node) (t : Terms) (e : ExprView) (i : ℕ) → e ≡ Input i → IsReady nodes t e → i < length t.inputs
input_bound nodes t e i is h = map_inside (sort_at nodes) t.inputs i h.sorted.0 (subst (λ x. HasSort (context_in nodes t) x h.sorted.0) is h.sorted.1)

pub local_bound : (nodes : List Node) (t : Terms) (e : ExprView) (i : ℕ) → e ≡ Local i → IsReady nodes t e → i < length t.lets
local_bound nodes t e i is h = map_inside (sort_at nodes) t.lets i h.sorted.0 (subst (λ x. HasSort (context_in nodes t) x h.sorted.0) is h.sorted.1)

same_at : (ids : List ℕ) (i d : ℕ) → i < length ids → slice_index_or ids i d ≡ slice_index_or ids i 0
same_at ids i d within =
    let one : slice_get ids i ≡ Some (slice_index_or ids i d) = slice_get-get_or ids i d within in
    let two : slice_get ids i ≡ Some (slice_index_or ids i 0) = slice_get-get_or ids i 0 within in
    cc

leaf : (nodes : List Node) (t : Terms) (e f : ExprView) (id : ℕ) → e ≡ f → id < length nodes → ((s : Sort) → HasSort (context_in nodes t) f s → sort_at nodes id ≡ s)
    → ((w : World) (env : Env) → DenoteEnv w nodes t env → denoted w nodes id ≡ denotes_value (value_of env f)) → IsMade nodes t f id → Evaluates nodes nodes t e (Ok id)
leaf nodes t e f id is inside sorted means made = subst (λ x. Evaluates nodes nodes t x (Ok id)) (sym is) (record {
  grows = Grows-self t.design nodes;
  term = record { inside = inside; sorted = λ s h. record { inside = inside; sorted = sorted s h }; denotes = means; made = made };
})

pub entry_arm : (nodes : List Node) (t : Terms) (e : ExprView) (i d : ℕ) → e ≡ Entry i → IsReady nodes t e → Evaluates nodes nodes t e (Ok (slice_index_or t.entries i d))
entry_arm nodes t e i d is h =
    let bound : i < length t.entries = entry_bound nodes t e i is h in
    let there : slice_get t.entries i ≡ Some (slice_index_or t.entries i d) = slice_get-get_or t.entries i d bound in
    leaf nodes t e (Entry i) _ is (inside_at nodes t.entries i _ h.terms.entries there) (λ s k. map_at (sort_at nodes) t.entries i _ s there k)
    (λ w env k. AllZip-at (λ x v. denoted w nodes x ≡ denotes_value v) t.entries env.state (truth false) k.state i _ there) (same_at t.entries i d bound)

pub input_arm : (nodes : List Node) (t : Terms) (e : ExprView) (i d : ℕ) → e ≡ Input i → IsReady nodes t e → Evaluates nodes nodes t e (Ok (slice_index_or t.inputs i d))
input_arm nodes t e i d is h =
    let bound : i < length t.inputs = input_bound nodes t e i is h in
    let there : slice_get t.inputs i ≡ Some (slice_index_or t.inputs i d) = slice_get-get_or t.inputs i d bound in
    leaf nodes t e (Input i) _ is (inside_at nodes t.inputs i _ h.terms.inputs there) (λ s k. map_at (sort_at nodes) t.inputs i _ s there k)
    (λ w env k. AllZip-at (λ x v. denoted w nodes x ≡ denotes_value (value.Scalar v)) t.inputs env.inputs (scalar.Bool false) k.inputs i _ there) (same_at t.inputs i d bound)

pub local_arm : (nodes : List Node) (t : Terms) (e : ExprView) (i d : ℕ) → e ≡ Local i → IsReady nodes t e → Evaluates nodes nodes t e (Ok (slice_index_or t.lets i d))
local_arm nodes t e i d is h =
    let bound : i < length t.lets = local_bound nodes t e i is h in
    let there : slice_get t.lets i ≡ Some (slice_index_or t.lets i d) = slice_get-get_or t.lets i d bound in
    leaf nodes t e (Local i) _ is (inside_at nodes t.lets i _ h.terms.lets there) (λ s k. map_at (sort_at nodes) t.lets i _ s there k)
    (λ w env k. AllZip-at (λ x v. denoted w nodes x ≡ denotes_value v) t.lets env.locals (truth false) k.locals i _ there) (same_at t.lets i d bound)
