-- What lists contain.
use Rattle.std.proofs.Common.{◌≡◌, ◌⊎◌, zero, suc, List, [], ◌∷◌, Contains, refl, inl, inr, arith}

pub first : {X : Type 0} (x : X) (xs : List X) → Contains (x ∷ xs) x
first x xs = (0, omega arith, refl)

pub second : {X : Type 0} (x y : X) (xs : List X) → Contains (x ∷ y ∷ xs) y
second x y xs = (1, omega arith, refl)

pub third : {X : Type 0} (x y z : X) (xs : List X) → Contains (x ∷ y ∷ z ∷ xs) z
third x y z xs = (2, omega arith, refl)

-- nothing is in no list
pub Contains-none : {X : Type 0} (x : X) → Contains [] x → ⊥
Contains-none x (k, h, e) = absurd (omega (arith, h))

-- one is the first or in the rest
pub Contains-cons : {X : Type 0} (x : X) (xs : List X) (y : X) → Contains (x ∷ xs) y → (x ≡ y) ⊎ Contains xs y
Contains-cons x xs y (zero, h, e) = inl e
Contains-cons x xs y (suc k, h, e) = inr (k, omega arith, e)

pub Contains-one : {X : Type 0} (x y : X) → Contains (x ∷ []) y → x ≡ y
Contains-one x y (zero, h, e) = e
Contains-one x y (suc k, h, e) = absurd (omega arith)
