-- Lists that are made of a part for each item.
use Rattle.std.proofs.Common.{◌≡◌, ℕ, ◌<◌, Bool, true, List, [], ◌∷◌, length, get_or, All, Contains, refl, sym, ◌∙◌, zero, suc, arith}
use Rattle.std.proofs.lemmas.Bool.{and_parts, and_from}
use Rattle.std.proofs.lemmas.List.Folds.{list_all-append}
use Rattle.std.proofs.lemmas.List.Elements.{All-append, All-nil, Contains-append_left, Contains-append_right}
use Rattle.std.specs.List.{flat_map, list_all}

module _ {X Y : Type 0} (f : X → List Y) where
  -- what holds of each part holds of the whole
  pub All-flat : (P : Y → Type 0) (xs : List X) → ((k : ℕ) (d : X) → k < length xs → All P (f (get_or xs k d))) → All P (flat_map f xs)
  All-flat P [] each = All-nil P
  All-flat P (x ∷ xs) each = All-append P (f x) (flat_map f xs) (each 0 x (omega arith)) (All-flat P xs (λ k d h. each (suc k) d (omega arith)))

  -- what a part has the whole has
  pub Contains-flat : (xs : List X) (k : ℕ) (d : X) (y : Y) → k < length xs → Contains (f (get_or xs k d)) y → Contains (flat_map f xs) y
  Contains-flat [] k d y h has = absurd (omega arith)
  Contains-flat (x ∷ xs) zero d y h has = Contains-append_left (f x) (flat_map f xs) y has
  Contains-flat (x ∷ xs) (suc k) d y h has = Contains-append_right (f x) (flat_map f xs) y (Contains-flat xs k d y (omega arith) has)

  pub list_all-flat : (p : Y → Bool) (xs : List X) → ((k : ℕ) (d : X) → k < length xs → list_all p (f (get_or xs k d)) ≡ true) → list_all p (flat_map f xs) ≡ true
  list_all-flat p [] each = refl
  list_all-flat p (x ∷ xs) each = list_all-append p (f x) (flat_map f xs) ∙ and_from _ _ (each 0 x (omega arith)) (list_all-flat p xs (λ k d h. each (suc k) d (omega arith)))

  pub list_all-part : (p : Y → Bool) (xs : List X) (k : ℕ) (d : X) → k < length xs → list_all p (flat_map f xs) ≡ true → list_all p (f (get_or xs k d)) ≡ true
  list_all-part p [] k d h all = absurd (omega arith)
  list_all-part p (x ∷ xs) zero d h all = (and_parts _ _ (sym (list_all-append p (f x) (flat_map f xs)) ∙ all)).0
  list_all-part p (x ∷ xs) (suc k) d h all = list_all-part p xs k d (omega arith) (and_parts (list_all p (f x)) _ (sym (list_all-append p (f x) (flat_map f xs)) ∙ all)).1
