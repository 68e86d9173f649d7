-- Items of lists by their places.
use Rattle.std.proofs.Common.{◌≡◌, ℕ, zero, suc, ◌+◌, ◌<◌, ◌≤◌, List, [], ◌∷◌, ◌++◌, map, take, drop, length, get_or, refl, ap, sym, subst, ◌∙◌, arith}
use Rattle.std.specs.Prelude.{Some, slice_get}
use Rattle.std.specs.List.{AllZip}
use Rattle.std.specs.Option.{option_map}
use Rattle.std.proofs.lemmas.List.{length-map}
use Rattle.std.proofs.lemmas.Option.{slice_get-get_or, slice_get-map}

pub take-next : {X : Type 0} → (xs : List X) (i : ℕ) (x : X) → slice_get xs i ≡ Some x → take (i + 1) xs ≡ take i xs ++ x ∷ []
take-next [] i x h = absurd (cc h)
take-next (y ∷ xs) zero x h = let same : y ≡ x = cc h in ap (λ z. z ∷ []) same
take-next (y ∷ xs) (suc i) x h = let e : suc i + 1 ≡ suc (i + 1) = omega arith in rw e (ap (λ l. y ∷ l) (take-next xs i x h))

pub drop-there : {X : Type 0} → (xs : List X) (i : ℕ) (x : X) → slice_get xs i ≡ Some x → drop i xs ≡ x ∷ drop (i + 1) xs
drop-there [] i x h = absurd (cc h)
drop-there (y ∷ xs) zero x h = let same : y ≡ x = cc h in ap (λ z. z ∷ xs) same
drop-there (y ∷ xs) (suc i) x h = let e : suc i + 1 ≡ suc (i + 1) = omega arith in rw e (drop-there xs i x h)

pub zip-length : {X Y : Type 0} → (R : X → Y → Type 0) (xs : List X) (ys : List Y) → AllZip R xs ys → length xs ≡ length ys
zip-length R [] [] h = refl
zip-length R [] (y ∷ ys) h = absurd h
zip-length R (x ∷ xs) [] h = absurd h
zip-length R (x ∷ xs) (y ∷ ys) h = ap suc (zip-length R xs ys h.1)

-- what stands at the same place of two lists
pub zip-there : {X Y : Type 0} → (R : X → Y → Type 0) (xs : List X) (ys : List Y) (i : ℕ) (x : X) → AllZip R xs ys → slice_get xs i ≡ Some x → (y : Y) × (slice_get ys i ≡ Some y) × R x y
zip-there R [] ys i x h there = absurd (cc there)
zip-there R (z ∷ xs) [] i x h there = absurd h
zip-there R (z ∷ xs) (y ∷ ys) zero x h there = let same : z ≡ x = cc there in (y, refl, subst (λ k. R k y) same h.0)
zip-there R (z ∷ xs) (y ∷ ys) (suc i) x h there = zip-there R xs ys i x h.1 there

-- an item of a list that a loop goes over
pub get-there : {X : Type 0} → (items xs : List X) (i : ℕ) (x : X) → items ≡ xs → i < length items → x ≡ get_or items i x → slice_get xs i ≡ Some x
get-there items xs i x same within is = subst (λ l. slice_get l i ≡ Some x) same (slice_get-get_or items i x within ∙ ap Some (sym is))

-- and as clauses see it
pub map-there : {X Y : Type 0} → (f : X → Y) (items xs : List X) (i : ℕ) (x : X) → items ≡ xs → i < length items → x ≡ get_or items i x → slice_get (map f xs) i ≡ Some (f x)
map-there f items xs i x same within is = slice_get-map f xs i ∙ ap (λ o. option_map f o) (get-there items xs i x same within is)

pub map-length : {X Y : Type 0} → (f : X → Y) (items xs : List X) (i : ℕ) → items ≡ xs → length items ≤ i → length (map f xs) ≤ i
map-length f items xs i same past = omega (arith, past, length-map xs f, ap length same)

pub map-within : {X Y : Type 0} → (f : X → Y) (items xs : List X) (i : ℕ) → items ≡ xs → i < length items → i < length (map f xs)
map-within f items xs i same within = omega (arith, within, length-map xs f, ap length same)
