-- Values that are there stay as they are when a list grows.
use Rattle.std.proofs.Common.{◌≡◌, ℕ, ◌+◌, ◌<◌, List, [], ◌∷◌, ◌++◌, length, refl, ap, sym, ◌∙◌, arith, length-append}
use Rattle.std.specs.Prelude.{slice_index_or}
use Rattle.std.proofs.lemmas.List.{get_or_append_left}
use Rattle.std.proofs.Math.Seq.{get_or-append_seam}
use Rattle.bd_list.specs.Grown.{grown}

-- what comes after starts from what is before it
pub grown-append : {X Y : Type 0} → (f : List Y → X → Y) (done : List Y) (xs ys : List X) → grown f done (xs ++ ys) ≡ grown f (grown f done xs) ys
grown-append f done [] ys = refl
grown-append f done (x ∷ xs) ys = grown-append f (done ++ f done x ∷ []) xs ys

-- an item more is a value more
pub grown-push : {X Y : Type 0} → (f : List Y → X → Y) (done : List Y) (xs : List X) (x : X) → grown f done (xs ++ x ∷ []) ≡ grown f done xs ++ f (grown f done xs) x ∷ []
grown-push f done xs x = grown-append f done xs (x ∷ [])

-- a value for each item, after those done
pub length-grown : {X Y : Type 0} → (f : List Y → X → Y) (done : List Y) (xs : List X) → length (grown f done xs) ≡ length done + length xs
length-grown f done [] = omega arith
length-grown f done (x ∷ xs) = length-grown f (done ++ f done x ∷ []) xs ∙ omega (arith, length-append done (f done x ∷ []))

-- values that are done stay
pub get-grown_done : {X Y : Type 0} → (f : List Y → X → Y) (done : List Y) (xs : List X) (i : ℕ) (d : Y) → i < length done → slice_index_or (grown f done xs) i d ≡ slice_index_or done i d
get-grown_done f done [] i d h = refl
get-grown_done f done (x ∷ xs) i d h =
    get-grown_done f (done ++ f done x ∷ []) xs i d (omega (arith, length-append done (f done x ∷ []))) ∙ get_or_append_left done (f done x ∷ []) d i h

-- so the values of a list's front don't depend on what comes after it
pub get-grown_front : {X Y : Type 0} → (f : List Y → X → Y) (xs ys : List X) (i : ℕ) (d : Y) → i < length xs → slice_index_or (grown f [] (xs ++ ys)) i d ≡ slice_index_or (grown f [] xs) i d
get-grown_front f xs ys i d h = ap (λ vs. slice_index_or vs i d) (grown-append f [] xs ys) ∙ get-grown_done f (grown f [] xs) ys i d (omega (arith, length-grown f [] xs))

-- the value of an item is the one that its front gives
pub get-grown_at : {X Y : Type 0} → (f : List Y → X → Y) (xs : List X) (x : X) (ys : List X) (d : Y) → slice_index_or (grown f [] (xs ++ x ∷ ys)) (length xs) d ≡ f (grown f [] xs) x
get-grown_at f xs x ys d =
    let done : List _ = grown f [] xs in
    let size : length done ≡ length xs = omega (arith, length-grown f [] xs) in
    ap (λ vs. slice_index_or vs (length xs) d) (grown-append f [] xs (x ∷ ys))
    ∙ get-grown_done f (done ++ f done x ∷ []) ys (length xs) d (omega (arith, size, length-append done (f done x ∷ [])))
    ∙ ap (λ n. slice_index_or (done ++ f done x ∷ []) n d) (sym size)
    ∙ get_or-append_seam done (f done x) [] d
