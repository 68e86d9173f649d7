-- Items with their places.
use Rattle.std.proofs.Common.{◌≡◌, ℕ, zero, suc, ◌+◌, ◌≤◌, List, [], ◌∷◌, ◌++◌, length, map, take, slice_get, slice_set, Some, refl, ap, sym, ◌∙◌, arith}
use Rattle.std.specs.Prelude.{slice_index_or}
use Rattle.std.specs.List.{AllByRecursion, AllZip}
use Rattle.std.proofs.lemmas.List.{length-take-le, take_more}
use Rattle.std.proofs.lemmas.Option.{get_or_from_slice_get, none-some, same_Some, slice_get_within}
use Rattle.bd_lift.specs.inner.Built.{numbered}

pub take-get : {X : Type 0} → (xs : List X) (k : ℕ) (x : X) → slice_get xs k ≡ Some x → take (k + 1) xs ≡ take k xs ++ x ∷ []
take-get xs k x e = take_more xs k x (slice_get_within xs k x e) ∙ ap (λ y. take k xs ++ y ∷ []) (get_or_from_slice_get xs k x x e)

pub numbered-push : {X Y : Type 0} → (f : ℕ → X → Y) (k : ℕ) (xs : List X) (x : X) (i : ℕ) → i ≡ k + length xs → numbered f k (xs ++ x ∷ []) ≡ numbered f k xs ++ f i x ∷ []
numbered-push f k [] x i e = let same : k ≡ i = omega (arith, e) in ap (λ n. f n x ∷ []) same
numbered-push f k (y ∷ xs) x i e = ap (λ l. f k y ∷ l) (numbered-push f (suc k) xs x i (omega (arith, e)))

pub length-numbered : {X Y : Type 0} → (f : ℕ → X → Y) (k : ℕ) (xs : List X) → length (numbered f k xs) ≡ length xs
length-numbered f k [] = refl
length-numbered f k (x ∷ xs) = ap suc (length-numbered f (suc k) xs)

pub get-numbered : {X Y : Type 0} → (f : ℕ → X → Y) (k : ℕ) (xs : List X) (i j : ℕ) (x : X) (d : Y) → slice_get xs i ≡ Some x → j ≡ k + i → slice_index_or (numbered f k xs) i d ≡ f j x
get-numbered f k [] i j x d h e = absurd (none-some x h)
get-numbered f k (y ∷ xs) zero j x d h e = let same : k ≡ j = omega (arith, e) in (λ n. f (same n) (same_Some y x h n))
get-numbered f k (y ∷ xs) (suc i) j x d h e = get-numbered f (suc k) xs i j x d h (omega (arith, e))

pub numbered-same : {X Y : Type 0} → (f g : ℕ → X → Y) (k : ℕ) (xs : List X) → ((m : ℕ) (x : X) → k ≤ m → f m x ≡ g m x) → numbered f k xs ≡ numbered g k xs
numbered-same f g k [] h = refl
numbered-same f g k (x ∷ xs) h =
    let head = h k x (omega arith) in
    let tail = numbered-same f g (suc k) xs (λ m y l. h m y (omega (arith, l))) in
    λ i. head i ∷ tail i

-- one value in another's place
pub set-numbered : {X Y : Type 0} → (f g : ℕ → X → Y) (k : ℕ) (xs : List X) (i j : ℕ) (y : X) → slice_get xs i ≡ Some y → j ≡ k + i → ((m : ℕ) (x : X) → (m ≡ j → ⊥) → f m x ≡ g m x)
    → slice_set (numbered f k xs) i (g j y) ≡ numbered g k xs
set-numbered f g k [] i j y at e h = absurd (none-some y at)
set-numbered f g k (x ∷ xs) zero j y at e h =
    let same : j ≡ k = omega (arith, e) in
    let tail = numbered-same f g (suc k) xs (λ m z l. h m z (λ q. absurd (omega (arith, q, l, same)))) in
    λ n. g (same n) (sym (same_Some x y at) n) ∷ tail n
set-numbered f g k (x ∷ xs) (suc i) j y at e h =
    let head = h k x (λ q. absurd (omega (arith, q, e))) in
    let tail = set-numbered f g (suc k) xs i j y at (omega (arith, e)) h in
    λ n. head n ∷ tail n

pub AllZip-numbered : {X Y : Type 0} → (P : X → Y → Type 0) (f : ℕ → X → Y) (k : ℕ) (xs : List X) → ((i j : ℕ) (x : X) → slice_get xs i ≡ Some x → j ≡ k + i → P x (f j x)) → AllZip P xs (numbered f k xs)
AllZip-numbered P f k [] h = tt
AllZip-numbered P f k (x ∷ xs) h = (h 0 k x refl (omega arith), AllZip-numbered P f (suc k) xs (λ i j y at e. h (suc i) j y at (omega (arith, e))))

pub AllByRecursion-numbered : {X Y : Type 0} → (P : Y → Type 0) (f : ℕ → X → Y) (k : ℕ) (xs : List X) → ((i j : ℕ) (x : X) → slice_get xs i ≡ Some x → j ≡ k + i → P (f j x)) → AllByRecursion P (numbered f k xs)
AllByRecursion-numbered P f k [] h = tt
AllByRecursion-numbered P f k (x ∷ xs) h = (h 0 k x refl (omega arith), AllByRecursion-numbered P f (suc k) xs (λ i j y at e. h (suc i) j y at (omega (arith, e))))

-- one item more of those taken
pub numbered-take : {X Y : Type 0} → (f : ℕ → X → Y) (xs : List X) (i : ℕ) (x : X) → slice_get xs i ≡ Some x → numbered f 0 (take (i + 1) xs) ≡ numbered f 0 (take i xs) ++ f i x ∷ []
numbered-take f xs i x at =
    let size : length (take i xs) ≡ i = length-take-le i xs (omega (arith, slice_get_within xs i x at)) in
    ap (numbered f 0) (take-get xs i x at) ∙ numbered-push f 0 (take i xs) x i (omega (arith, size))

pub length-map : {X Y : Type 0} → (f : X → Y) (xs : List X) → length (map f xs) ≡ length xs
length-map f [] = refl
length-map f (x ∷ xs) = ap suc (length-map f xs)
