-- What must stand once, gone through item by item.
use Rattle.std.proofs.Common.{◌≡◌, ℕ, ◌≤◌, true, false, cond, List, [], ◌∷◌, length, map, drop, Option, Some, None, refl, ap, sym, ◌∙◌}
use Rattle.std.specs.Prelude.{fold}
use Rattle.std.proofs.lemmas.List.{at_drop_all, length-map}
use Rattle.bd_syntax.specs.Forms.{ItemView, item_view}
use Rattle.bd_syntax.specs.declared.item.Item.{Item}
use Rattle.std.specs.List.{filter_map, cons_option}
use Rattle.bd_typer.specs.Declarations.{not_once}
use Rattle.bd_typer.specs.declared.declarations.Counted.{Counted}
use Rattle.bd_typer.specs.inner.Located.{first_offset, least_offset}
use Rattle.bd_typer.specs.inner.Roles.{counted_with}
use Rattle.bd_typer.proofs.LeastFault.{first_offset-assoc}

filter_map-map : {X : Type 0} (f : X → Option ℕ) (xs : List X) → filter_map (λ o. o) (map f xs) ≡ filter_map f xs
filter_map-map f [] = refl
filter_map-map f (x ∷ xs) = ap (cons_option (f x)) (filter_map-map f xs)

abbrev pub present : List (Option ℕ) → List ℕ
present os = filter_map (λ o. o) os

given_again : (a : Option ℕ) (os : List (Option ℕ)) → fold counted_with (record { given = true; again = a }) os ≡ record { given = true; again = first_offset a (least_offset (present os)) }
given_again None [] = refl
given_again (Some a) [] = refl
given_again a (None ∷ os) = given_again a os
given_again a (Some o ∷ os) =
    given_again (first_offset a (Some o)) os
    ∙ ap (λ b. record { given = true; again = b }) (sym (first_offset-assoc a (Some o) (least_offset (present os))))

-- the least offset at which it is missing or given again
abbrev pub counts_as : ℕ → Counted → Option ℕ
counts_as tree c = cond c.given c.again (Some tree)

pub counts : (tree : ℕ) (os : List (Option ℕ)) → counts_as tree (fold counted_with (record { given = false; again = None }) os) ≡ least_offset (not_once tree (present os))
counts tree [] = refl
counts tree (None ∷ os) = counts tree os
counts tree (Some o ∷ os) = ap (counts_as tree) (given_again None os)

module _ (tree : ℕ) (f : ItemView → Option ℕ) (items : List Item) (i : ℕ) (c : Counted) (past : length items ≤ i) (so_far : fold counted_with c (map f (map item_view (drop i items))) ≡ fold counted_with (record { given = false; again = None }) (map f (map item_view items))) where
  is_counted : counts_as tree c ≡ least_offset (not_once tree (filter_map f (map item_view items)))
  is_counted =
      ap (counts_as tree) (sym (at_drop_all (λ xs. fold counted_with c (map f (map item_view xs))) items i past) ∙ so_far)
      ∙ counts tree (map f (map item_view items))
      ∙ ap (λ os. least_offset (not_once tree os)) (filter_map-map f (map item_view items))

  pub given_once : c.given ≡ true → c.again ≡ least_offset (not_once tree (filter_map f (map item_view items)))
  given_once h = sym (ap (λ b. cond b c.again (Some tree)) h) ∙ is_counted

  pub not_given : c.given ≡ false → Some tree ≡ least_offset (not_once tree (filter_map f (map item_view items)))
  not_given h = sym (ap (λ b. cond b c.again (Some tree)) h) ∙ is_counted

pub item_count : (items : List Item) → length (map item_view items) ≡ length items
item_count items = length-map items item_view
