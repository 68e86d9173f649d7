-- Names that are gone through one after the other.
use Rattle.std.proofs.Common.{◌≡◌, ℕ, ◌+◌, ◌<◌, Bool, true, false, cond, List, [], ◌∷◌, ◌++◌, length, map, drop, get_or, Option, Some, None, refl, ap, sym, ◌∙◌}
use Rattle.std.specs.List.{filter_map}
use Rattle.std.proofs.lemmas.List.{at_drop_more}
use Rattle.std.specs.Option.{option_map}
use Rattle.std.specs.Borrow.{Bor}
use Rattle.std.specs.List.{cons_option}
use Rattle.bd_syntax.specs.Completion.{abstract_view}
use Rattle.bd_syntax.specs.Forms.{ItemView, item_view}
use Rattle.bd_syntax.specs.declared.ast.Abstract.{Abstract}
use Rattle.bd_syntax.specs.declared.form.Spot.{Spot}
use Rattle.bd_syntax.specs.declared.item.Item.{Item}
use Rattle.bd_typer.specs.Completions.{abstract_name}
use Rattle.bd_typer.specs.Declarations.{offsets}
use Rattle.bd_typer.specs.Repeats.{NameSet, with_text, with_names, repeated, fresh}
use Rattle.bd_typer.specs.inner.Located.{first_offset, least_offset}
use Rattle.bd_typer.specs.inner.Roles.{given}
use Rattle.bd_typer.proofs.LeastFault.{first_offset-assoc, least_offset-append}

with_names-append : (t : NameSet) (xs ys : List Spot) → with_names t (xs ++ ys) ≡ with_names (with_names t xs) ys
with_names-append t [] ys = refl
with_names-append t (x ∷ xs) ys = with_names-append (with_text t x.text) xs ys

repeated-append : (t : NameSet) (xs ys : List Spot) → repeated t (xs ++ ys) ≡ repeated t xs ++ repeated (with_names t xs) ys
repeated-append t [] ys = refl
repeated-append t (x ∷ xs) ys = by_test (t x.text) _ _ _ (repeated-append (with_text t x.text) xs ys) where
  by_test : (p : Bool) (r s u : List Spot) → r ≡ s ++ u → cond p (x ∷ r) r ≡ cond p (x ∷ s) s ++ u
  by_test true r s u e = ap (λ z. x ∷ z) e
  by_test false r s u e = e

fresh-append : (t : NameSet) (xs ys : List Spot) → fresh t (xs ++ ys) ≡ fresh t xs ++ fresh (with_names t xs) ys
fresh-append t [] ys = refl
fresh-append t (x ∷ xs) ys = by_test (t x.text) _ _ _ (fresh-append (with_text t x.text) xs ys) where
  by_test : (p : Bool) (r s u : List Spot) → r ≡ s ++ u → cond p r (x ∷ r) ≡ cond p s (x ∷ s) ++ u
  by_test true r s u e = e
  by_test false r s u e = ap (λ z. x ∷ z) e

offsets-append : (xs ys : List Spot) → offsets (xs ++ ys) ≡ offsets xs ++ offsets ys
offsets-append [] ys = refl
offsets-append (x ∷ xs) ys = ap (λ z. x.offset ∷ z) (offsets-append xs ys)

-- an offset so far, and the least among the names to come
module _ (t : NameSet) (xs ys : List Spot) (a : Option ℕ) where
  pub repeated-step : first_offset a (least_offset (offsets (repeated t (xs ++ ys)))) ≡ first_offset (first_offset a (least_offset (offsets (repeated t xs)))) (least_offset (offsets (repeated (with_names t xs) ys)))
  repeated-step =
      ap (λ zs. first_offset a (least_offset (offsets zs))) (repeated-append t xs ys)
      ∙ ap (λ zs. first_offset a (least_offset zs)) (offsets-append (repeated t xs) (repeated (with_names t xs) ys))
      ∙ ap (first_offset a) (least_offset-append (offsets (repeated t xs)) (offsets (repeated (with_names t xs) ys)))
      ∙ first_offset-assoc a (least_offset (offsets (repeated t xs))) (least_offset (offsets (repeated (with_names t xs) ys)))

  pub fresh-step : first_offset a (least_offset (offsets (fresh t (xs ++ ys)))) ≡ first_offset (first_offset a (least_offset (offsets (fresh t xs)))) (least_offset (offsets (fresh (with_names t xs) ys)))
  fresh-step =
      ap (λ zs. first_offset a (least_offset (offsets zs))) (fresh-append t xs ys)
      ∙ ap (λ zs. first_offset a (least_offset zs)) (offsets-append (fresh t xs) (fresh (with_names t xs) ys))
      ∙ ap (first_offset a) (least_offset-append (offsets (fresh t xs)) (offsets (fresh (with_names t xs) ys)))
      ∙ first_offset-assoc a (least_offset (offsets (fresh t xs))) (least_offset (offsets (fresh (with_names t xs) ys)))

-- the names of the items from a place on
abbrev pub names_from : (ItemView → Option Spot) → List Item → ℕ → List Spot
names_from f items i = filter_map f (map item_view (drop i items))

given-names : (name : Option (Bor Spot)) (o : Option Spot) (rest : List Spot) → option_map (λ n. n.now) name ≡ o → cons_option o rest ≡ given name ++ rest
given-names None o rest e = ap (λ z. cons_option z rest) (sym e)
given-names (Some n) o rest e = ap (λ z. cons_option z rest) (sym e)

-- the name of this item, and those of the items after it
pub names-step : (f : ItemView → Option Spot) (items : List Item) (i : ℕ) (item : Item) (name : Option (Bor Spot)) → i < length items → item ≡ get_or items i item → option_map (λ n. n.now) name ≡ f (item_view item)
    → names_from f items i ≡ given name ++ names_from f items (i + 1)
names-step f items i item name lt is e =
    at_drop_more (λ xs. filter_map f (map item_view xs)) items i item lt
    ∙ ap (λ x. cons_option (f (item_view x)) (names_from f items (i + 1))) (sym is)
    ∙ given-names name (f (item_view item)) (names_from f items (i + 1)) e

-- the names of the abstracts from a place on
abbrev pub abstracts_from : List Abstract → ℕ → List Spot
abstracts_from parts i = map abstract_name (map abstract_view (drop i parts))

pub abstracts-step : (parts : List Abstract) (i : ℕ) (part : Abstract) → i < length parts → part ≡ get_or parts i part → abstracts_from parts i ≡ part.name ∷ abstracts_from parts (i + 1)
abstracts-step parts i part lt is =
    at_drop_more (λ xs. map abstract_name (map abstract_view xs)) parts i part lt
    ∙ ap (λ (x : Abstract). x.name ∷ abstracts_from parts (i + 1)) (sym is)

-- one more name is gone through, where these are the names to come before it and after it
module _ (names now rest : List Spot) (step : now ≡ names ++ rest) (t u : NameSet) (same : u ≡ with_names t names) (a b total : Option ℕ) where
  pub repeated-more : b ≡ first_offset a (least_offset (offsets (repeated t names)))
      → first_offset a (least_offset (offsets (repeated t now))) ≡ total
      → first_offset b (least_offset (offsets (repeated u rest))) ≡ total
  repeated-more is_b so_far =
      rw (is_b, same) (sym (repeated-step t names rest a)
      ∙ ap (λ xs. first_offset a (least_offset (offsets (repeated t xs)))) (sym step) ∙ so_far)

  pub fresh-more : b ≡ first_offset a (least_offset (offsets (fresh t names)))
      → first_offset a (least_offset (offsets (fresh t now))) ≡ total
      → first_offset b (least_offset (offsets (fresh u rest))) ≡ total
  fresh-more is_b so_far =
      rw (is_b, same) (sym (fresh-step t names rest a)
      ∙ ap (λ xs. first_offset a (least_offset (offsets (fresh t xs)))) (sym step) ∙ so_far)

  pub set-more : (all : NameSet) → with_names t now ≡ all → with_names u rest ≡ all
  set-more all so_far =
      rw same (sym (with_names-append t names rest)
      ∙ ap (with_names t) (sym step) ∙ so_far)
