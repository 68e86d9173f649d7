-- Texts that are equal, and places of lists that grow.
use Rattle.std.proofs.Common.{◌≡◌, ⊎_elim, inl, inr, ℕ, zero, suc, true, List, [], ◌∷◌, ◌++◌, length, Option, Some, None, refl, ap, arith}
use Rattle.std.specs.Prelude.{◌⊎◌, nat_eq, slice_get}
use Rattle.std.proofs.lemmas.Bool.{eqb-true}
use Rattle.bd_syntax.proofs.Results.{split_and}
use Rattle.bd_syntax.specs.Words.{same_text}

pub same_text-true : (a b : List ℕ) → same_text a b ≡ true → a ≡ b
same_text-true [] [] h = refl
same_text-true [] (y ∷ ys) h = absurd (cc h)
same_text-true (x ∷ xs) [] h = absurd (cc h)
same_text-true (x ∷ xs) (y ∷ ys) h =
    let p = split_and (nat_eq x y) (same_text xs ys) h in
    let head : x ≡ y = eqb-true x y p.0 in
    let tail : xs ≡ ys = same_text-true xs ys p.1 in
    rw (head, tail) refl

pub same_text-same : (a : List ℕ) → same_text a a ≡ true
same_text-same [] = refl
same_text-same (x ∷ xs) = let p : nat_eq x x ≡ true = grind arith in rw (p, same_text-same xs) refl

-- what stands at a place stays there when a list grows
pub get-left : {X : Type 0} (xs ys : List X) (n : ℕ) (x : X) → slice_get xs n ≡ Some x → slice_get (xs ++ ys) n ≡ Some x
get-left [] ys n x h = absurd (cc h)
get-left (y ∷ xs) ys zero x h = h
get-left (y ∷ xs) ys (suc n) x h = get-left xs ys n x h

pub get-end : {X : Type 0} (xs : List X) (x : X) → slice_get (xs ++ x ∷ []) (length xs) ≡ Some x
get-end [] x = refl
get-end (y ∷ xs) x = get-end xs x

-- what stands in a list with one more stood there before, or is the new one
pub get-push : {X : Type 0} (xs : List X) (y x : X) (n : ℕ) → slice_get (xs ++ y ∷ []) n ≡ Some x → (slice_get xs n ≡ Some x) ⊎ ((n ≡ length xs) × (y ≡ x))
get-push [] y x zero h = inr (refl, cc h)
get-push [] y x (suc n) h = absurd (cc h)
get-push (z ∷ xs) y x zero h = inl h
get-push (z ∷ xs) y x (suc n) h = ⊎_elim (λ p. inl p) (λ p. inr (ap suc p.0, p.1)) (get-push xs y x n h)

abbrev or_else : {X : Type 0} → X → Option X → X
or_else d None = d
or_else d (Some x) = x

pub some_is : {X : Type 0} (a b : X) → Some a ≡ Some b → a ≡ b
some_is a b h = ap (or_else a) h
