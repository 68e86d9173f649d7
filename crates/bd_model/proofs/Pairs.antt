-- Facts about two lists, place by place.
use Rattle.std.proofs.Common.{◌≡◌, ◌↔◌, ℕ, zero, suc, List, [], ◌∷◌, ◌++◌, get_or, map, length, subst}
use Rattle.std.specs.Prelude.{Some, slice_get}
use Rattle.std.specs.List.{AllZip}

-- what holds of both defaults and place by place holds at any place
pub AllZip-at_any : {A B : Type 0} (R : A → B → Type 0) (xs : List A) (ys : List B) (d : A) (e : B) → R d e → AllZip R xs ys → (i : ℕ) → R (get_or xs i d) (get_or ys i e)
AllZip-at_any R [] [] d e r h i = r
AllZip-at_any R [] (y ∷ ys) d e r h i = absurd h
AllZip-at_any R (x ∷ xs) [] d e r h i = absurd h
AllZip-at_any R (x ∷ xs) (y ∷ ys) d e r h zero = h.0
AllZip-at_any R (x ∷ xs) (y ∷ ys) d e r h (suc i) = AllZip-at_any R xs ys d e r h.1 i

-- what each left item brings, at its place on the right
pub AllZip-at : {A B : Type 0} (R : A → B → Type 0) (xs : List A) (ys : List B) (e : B) → AllZip R xs ys → (i : ℕ) (x : A) → slice_get xs i ≡ Some x → R x (get_or ys i e)
AllZip-at R [] ys e h i x q = absurd (cc q)
AllZip-at R (x' ∷ xs) [] e h i x q = absurd h
AllZip-at R (x' ∷ xs) (y ∷ ys) e h zero x q = let same : x' ≡ x = cc q in subst (λ z. R z y) same h.0
AllZip-at R (x' ∷ xs) (y ∷ ys) e h (suc i) x q = AllZip-at R xs ys e h.1 i x q

-- one pair more
pub AllZip-append : {A B : Type 0} (R : A → B → Type 0) (xs : List A) (ys : List B) (x : A) (y : B) → AllZip R xs ys → R x y → AllZip R (xs ++ x ∷ []) (ys ++ y ∷ [])
AllZip-append R [] [] x y h r = (r, tt)
AllZip-append R [] (y' ∷ ys) x y h r = absurd h
AllZip-append R (x' ∷ xs) [] x y h r = absurd h
AllZip-append R (x' ∷ xs) (y' ∷ ys) x y h r = (h.0, AllZip-append R xs ys x y h.1 r)

-- two functions over one list
pub AllZip-of_maps : {A B C : Type 0} (R : B → C → Type 0) (f : A → B) (g : A → C) → ((a : A) → R (f a) (g a)) → (xs : List A) → AllZip R (map f xs) (map g xs)
AllZip-of_maps R f g h [] = tt
AllZip-of_maps R f g h (x ∷ xs) = (h x, AllZip-of_maps R f g h xs)

-- a function of the right items
pub AllZip-map_right : {A B C : Type 0} (R : A → B → Type 0) (S : A → C → Type 0) (f : B → C) → ((a : A) (b : B) → R a b → S a (f b)) → (xs : List A) (ys : List B) → AllZip R xs ys → AllZip S xs (map f ys)
AllZip-map_right R S f h [] [] all = tt
AllZip-map_right R S f h [] (y ∷ ys) all = absurd all
AllZip-map_right R S f h (x ∷ xs) [] all = absurd all
AllZip-map_right R S f h (x ∷ xs) (y ∷ ys) all = (h x y all.0, AllZip-map_right R S f h xs ys all.1)

-- a function of the left items
pub AllZip-map_first : {A B C : Type 0} (R : B → C → Type 0) (f : A → B) (xs : List A) (ys : List C) → AllZip R (map f xs) ys ↔ AllZip (λ x y. R (f x) y) xs ys
AllZip-map_first R f [] [] = (λ h. h, λ h. h)
AllZip-map_first R f [] (y ∷ ys) = (λ h. h, λ h. h)
AllZip-map_first R f (x ∷ xs) [] = (λ h. h, λ h. h)
AllZip-map_first R f (x ∷ xs) (y ∷ ys) =
    let rest = AllZip-map_first R f xs ys in (λ h. (h.0, rest.0 h.1), λ h. (h.0, rest.1 h.1))

-- what is left of two lists, which decides whether R holds of both
pub record IsLeft {A B : Type 0} (R : A → B → Type 0) (all xs : List A) (others ys : List B) : Type 0 where
  pub lengths : length xs ≡ length ys
  pub decides : AllZip R xs ys ↔ AllZip R all others
