-- Loops over items, one step on.
use Rattle.std.proofs.Common.{◌≡◌, ℕ, ◌+◌, ◌<◌, Bool, true, false, cond, List, [], ◌∷◌, ◌++◌, length, map, drop, get_or, Option, Some, None, Result, Ok, refl, ap, sym, ◌∙◌, subst}
use Rattle.std.specs.Prelude.{fold}
use Rattle.std.proofs.Math.Path.{fun_ext}
use Rattle.std.proofs.lemmas.List.{at_drop_more}
use Rattle.bd_syntax.specs.Forms.{Expression, ItemView, item_view}
use Rattle.bd_syntax.specs.declared.form.Spot.{Spot}
use Rattle.bd_typer.specs.Typing.{typed}
use Rattle.bd_syntax.specs.Words.{same_text}
use Rattle.bd_syntax.specs.Reading.{Fault}
use Rattle.bd_syntax.specs.declared.item.Item.{Item}
use Rattle.bd_typer.specs.declared.names.Meaning.{Meaning}
use Rattle.bd_typer.specs.declared.names.Outer.{Outer}
use Rattle.bd_typer.specs.Faults.{◌>>=◌}
use Rattle.bd_typer.specs.NameMap.{NameMap, declare, Scope, with_item, shared_names}
use Rattle.bd_model.specs.ExprView.{ExprView}
use Rattle.bd_model.specs.Lawful.{uses_input}
use Rattle.bd_model.specs.declared.design.Sort.{Sort}
use Rattle.bd_typer.specs.declared.names.Meaning.TheVariants.{Local}
use Rattle.bd_typer.specs.Walk.{Typed, with_local, typed_let, typed_item, typed_items}
use Rattle.bd_typer.specs.inner.Held.{or_else, meanings, meanings_within}
use Rattle.bd_typer.proofs.DeclaredNames.{GrowsByOne, item_grows}

pub scope_more : (others : NameMap) (s u : Scope) (items : List Item) (i : ℕ) (item : Item) (total : Scope) → i < length items → item ≡ get_or items i item → u ≡ with_item others s (item_view item)
    → fold (with_item others) s (map item_view (drop i items)) ≡ total → fold (with_item others) u (map item_view (drop (i + 1) items)) ≡ total
scope_more others s u items i item total lt is step so_far =
    let rest = map item_view (drop (i + 1) items) in
    ap (λ v. fold (with_item others) v rest) (step ∙ ap (λ x. with_item others s (item_view x)) is)
    ∙ sym (at_drop_more (λ xs. fold (with_item others) s (map item_view xs)) items i item lt) ∙ so_far

pub scope_counts : (others : NameMap) (s u : Scope) (item : ItemView) → u ≡ with_item others s item → GrowsByOne s u
scope_counts others s u item is = subst (GrowsByOne s) (sym is) (item_grows others s item)

pub walk_more : (inputs : Bool) (t u : Typed) (items : List Item) (i : ℕ) (item : Item) (total : Result Typed Fault) → i < length items → item ≡ get_or items i item → typed_item inputs t (item_view item) ≡ Ok u
    → typed_items inputs t (map item_view (drop i items)) ≡ total → typed_items inputs u (map item_view (drop (i + 1) items)) ≡ total
walk_more inputs t u items i item total lt is step so_far =
    let rest = map item_view (drop (i + 1) items) in
    ap (λ r. r >>= λ v. typed_items inputs v rest) (sym step)
    ∙ ap (λ x. typed_item inputs t (item_view x) >>= λ v. typed_items inputs v rest) is
    ∙ sym (at_drop_more (λ xs. typed_items inputs t (map item_view xs)) items i item lt) ∙ so_far

-- a name that is declared is found before what stands outside
pub within_declare : (outer : Option Outer) (own : NameMap) (name : List ℕ) (m : Meaning) → meanings_within outer (declare own name m) ≡ declare (meanings_within outer own) name m
within_declare None own name m = refl
within_declare (Some outer) own name m = fun_ext (λ text. chosen (same_text name text) text) where
  chosen : (b : Bool) (text : List ℕ)
      → or_else (cond b (Some m) (own text)) (shared_names (meanings outer.pipe.now) (meanings outer.spec.now) text)
      ≡ cond b (Some m) (or_else (own text) (shared_names (meanings outer.pipe.now) (meanings outer.spec.now) text))
  chosen true text = refl
  chosen false text = refl

-- what is kept of a file once a let is declared
pub kept : (t u : Typed) (name : List ℕ) (sort : Sort) (e : ExprView) → u.names ≡ declare t.names name (Local (length t.locals) sort (uses_input t.flags e))
    → u.ports ≡ t.ports → u.locals ≡ t.locals ++ record { sort = sort; value = e } ∷ [] → u.flags ≡ t.flags ++ uses_input t.flags e ∷ []
    → u.nexts ≡ t.nexts → u.exact ≡ t.exact → u.distinct ≡ t.distinct → u ≡ with_local t name sort e
kept t u name sort e p q r s x y z = λ i. record { names = p i; ports = q i; locals = r i; flags = s i; nexts = x i; exact = y i; distinct = z i }

-- a let is typed and kept
pub let_ok : (inputs : Bool) (t : Typed) (name : Spot) (sort : Sort) (value : Expression) (e : ExprView) (u : Typed) → typed t.names inputs sort value ≡ Ok e → u ≡ with_local t name.text sort e → typed_let inputs t name sort value ≡ Ok u
unfolding typed_let
let_ok inputs t name sort value e u h k = rw (h, k) refl
