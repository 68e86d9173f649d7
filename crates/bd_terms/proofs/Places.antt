-- Items of lists by their places.
use Rattle.std.proofs.Common.{◌≡◌, ℕ, zero, suc, ◌+◌, ◌<◌, ◌⊎◌, inl, inr, Bool, true, false, List, [], ◌∷◌, ◌++◌, length, slice_get, slice_index_or, take, drop, Some, Contains, refl, ap, sym, ◌∙◌, subst, arith, true≢false}
use Rattle.std.specs.List.{All, AllByRecursion, IsDistinct}
use Rattle.std.proofs.lemmas.Option.{none-some, same_Some, slice_get_within, get_or_from_slice_get}
use Rattle.std.proofs.lemmas.List.{length-take-le}
use Rattle.std.proofs.lemmas.List.Elements.{All-contains_itself, All-weaker, Contains-append_right}
use Rattle.bd_list.specs.Grown.{grown}
use Rattle.bd_list.proofs.Grown.{get-grown_at}

-- an item stays where it is when the list grows
pub get-front : {X : Type 0} → (xs ys : List X) (i : ℕ) (x : X) → slice_get xs i ≡ Some x → slice_get (xs ++ ys) i ≡ Some x
get-front [] ys i x h = absurd (none-some x h)
get-front (y ∷ xs) ys zero x h = h
get-front (y ∷ xs) ys (suc i) x h = get-front xs ys i x h

-- an item of a list with one more is one of the list, or the one more
pub get-push : {X : Type 0} → (xs : List X) (y : X) (i : ℕ) (x : X) → slice_get (xs ++ y ∷ []) i ≡ Some x → (slice_get xs i ≡ Some x) ⊎ ((i ≡ length xs) × (x ≡ y))
get-push [] y zero x h = inr (refl, sym (same_Some y x h))
get-push [] y (suc i) x h = absurd (none-some x h)
get-push (z ∷ xs) y zero x h = inl h
get-push (z ∷ xs) y (suc i) x h =
    elim (get-push xs y i x h) [ inl p ↦ inl p | inr p ↦ inr (omega (arith, p.0), p.1) ]

-- a list around an item
pub around : {X : Type 0} → (xs : List X) (i : ℕ) (x : X) → slice_get xs i ≡ Some x → xs ≡ take i xs ++ (x ∷ drop (i + 1) xs)
around [] i x h = absurd (none-some x h)
around (y ∷ xs) zero x h = ap (λ z. z ∷ xs) (same_Some y x h)
around (y ∷ xs) (suc i) x h = let e : suc i + 1 ≡ suc (i + 1) = omega arith in rw e (ap (λ l. y ∷ l) (around xs i x h))

-- an item of a list is in it
pub Contains-get : {X : Type 0} → (xs : List X) (i : ℕ) (x : X) → slice_get xs i ≡ Some x → Contains xs x
Contains-get xs i x h = (i, slice_get_within xs i x h, get_or_from_slice_get xs i x x h)

-- what holds of what a list contains holds of all
pub All-of : {X : Type 0} → (P : X → Type 0) (xs : List X) → ((x : X) → Contains xs x → P x) → All P xs
All-of P xs h = All-weaker (Contains xs) P h xs (All-contains_itself xs)

-- and what holds of each item holds of it
pub AllByRecursion-get : {X : Type 0} → (P : X → Type 0) (xs : List X) (i : ℕ) (x : X) → AllByRecursion P xs → slice_get xs i ≡ Some x → P x
AllByRecursion-get P [] i x a h = absurd (none-some x h)
AllByRecursion-get P (y ∷ xs) zero x a h = subst P (same_Some y x h) a.0
AllByRecursion-get P (y ∷ xs) (suc i) x a h = AllByRecursion-get P xs i x a.1 h

pub AllByRecursion-of : {X : Type 0} → (P : X → Type 0) (xs : List X) → ((x : X) → Contains xs x → P x) → AllByRecursion P xs
AllByRecursion-of P [] h = tt
AllByRecursion-of P (x ∷ xs) h = (h x (0, omega arith, refl), AllByRecursion-of P xs (λ y p. h y (Contains-append_right (x ∷ []) xs y p)))

-- the value of an item is the one that its front gives
pub grown-get : {X Y : Type 0} → (f : List Y → X → Y) (xs : List X) (i : ℕ) (x : X) (d : Y) → slice_get xs i ≡ Some x → slice_index_or (grown f [] xs) i d ≡ f (grown f [] (take i xs)) x
grown-get f xs i x d h =
    let inside : i < length xs = slice_get_within xs i x h in
    let size : length (take i xs) ≡ i = length-take-le i xs (omega arith) in
    ap (λ l. slice_index_or (grown f [] l) i d) (around xs i x h)
    ∙ ap (λ n. slice_index_or (grown f [] (take i xs ++ (x ∷ drop (i + 1) xs))) n d) (sym size)
    ∙ get-grown_at f (take i xs) x (drop (i + 1) xs) d

-- items of a list that has none twice have one place each
pub IsDistinct-place : {X : Type 0} → (eq : X → X → Bool) → ((x : X) → eq x x ≡ true) → (xs : List X) → IsDistinct eq xs → (i j : ℕ) (x : X) → slice_get xs i ≡ Some x → slice_get xs j ≡ Some x → i ≡ j
unfolding IsDistinct
IsDistinct-place eq same [] d i j x h k = absurd (none-some x h)
IsDistinct-place eq same (y ∷ xs) d zero zero x h k = refl
IsDistinct-place eq same (y ∷ xs) d zero (suc j) x h k =
    absurd (true≢false (sym (same x) ∙ subst (λ z. eq z x ≡ false) (same_Some y x h) (AllByRecursion-get (λ z. eq y z ≡ false) xs j x d.0 k)))
IsDistinct-place eq same (y ∷ xs) d (suc i) zero x h k =
    absurd (true≢false (sym (same x) ∙ subst (λ z. eq z x ≡ false) (same_Some y x k) (AllByRecursion-get (λ z. eq y z ≡ false) xs i x d.0 h)))
IsDistinct-place eq same (y ∷ xs) d (suc i) (suc j) x h k = ap suc (IsDistinct-place eq same xs d.1 i j x h k)
