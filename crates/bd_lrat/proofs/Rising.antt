-- Numbers that rise, and what is found among them.
use Rattle.std.proofs.Common.{◌≡◌, ℕ, zero, suc, ◌+◌, ◌<◌, ◌≤◌, false, eqb, List, [], ◌∷◌, ◌++◌, length, get_or, refl, subst, arith}
use Rattle.std.specs.List.{list_any}
use Rattle.std.proofs.lemmas.Bool.{ne_eqb, or_from}
use Rattle.bd_lrat.specs.inner.Rising.{RisesWithin}

pub rises_bounds : (low high : ℕ) (xs : List ℕ) → RisesWithin low high xs → low ≤ high
rises_bounds low high [] so = so
rises_bounds low high (x ∷ xs) so =
    let first : low ≤ x = so.0 in
    let rest : x + 1 ≤ high = rises_bounds (x + 1) high xs so.1 in
    omega arith

pub rises_from : (low high : ℕ) (xs : List ℕ) → RisesWithin low high xs → (j : ℕ) → j < length xs → low ≤ get_or xs j 0
rises_from low high [] so j h = absurd (omega arith)
rises_from low high (x ∷ xs) so zero h = so.0
rises_from low high (x ∷ xs) so (suc j) h =
    let first : low ≤ x = so.0 in
    let rest : x + 1 ≤ get_or xs j 0 = rises_from (x + 1) high xs so.1 j (omega arith) in
    omega arith

-- in order of their places
pub rises_ordered : (low high : ℕ) (xs : List ℕ) → RisesWithin low high xs → (i j : ℕ) → i ≤ j → j < length xs → get_or xs i 0 ≤ get_or xs j 0
rises_ordered low high [] so i j le h = absurd (omega arith)
rises_ordered low high (x ∷ xs) so zero zero le h = omega arith
rises_ordered low high (x ∷ xs) so zero (suc j) le h = let rest : x + 1 ≤ get_or xs j 0 = rises_from (x + 1) high xs so.1 j (omega arith) in omega arith
rises_ordered low high (x ∷ xs) so (suc i) zero le h = absurd (omega arith)
rises_ordered low high (x ∷ xs) so (suc i) (suc j) le h = rises_ordered (x + 1) high xs so.1 i j (omega arith) (omega arith)

-- what stands nowhere in a list isn't found
pub none_found : (xs : List ℕ) (n : ℕ) → ((k : ℕ) → k < length xs → get_or xs k 0 ≡ n → ⊥) → list_any (λ x. eqb x n) xs ≡ false
none_found [] n all = refl
none_found (x ∷ xs) n all = or_from _ _ (ne_eqb x n (all zero (omega arith))) (none_found xs n (λ k h e. all (suc k) (omega arith) e))

pub none_below : (low high : ℕ) (xs : List ℕ) (n : ℕ) → RisesWithin low high xs → n < low → list_any (λ x. eqb x n) xs ≡ false
none_below low high xs n so h = none_found xs n (λ k here e. let above : low ≤ get_or xs k 0 = rises_from low high xs so k here in absurd (omega arith))

pub rises_same : (low low' high high' : ℕ) (xs : List ℕ) → low ≡ low' → high ≡ high' → RisesWithin low high xs → RisesWithin low' high' xs
rises_same low low' high high' xs e f so = subst (λ l. RisesWithin l high' xs) e (subst (λ h. RisesWithin low h xs) f so)

-- one more after the others
pub rises_push : (low high : ℕ) (xs : List ℕ) → RisesWithin low high xs → RisesWithin low (high + 1) (xs ++ high ∷ [])
rises_push low high [] so = (so, omega arith)
rises_push low high (x ∷ xs) so = (so.0, rises_push (x + 1) high xs so.1)

pub rises_more : (low high more : ℕ) (xs : List ℕ) → high ≤ more → RisesWithin low high xs → RisesWithin low more xs
rises_more low high more [] h so = omega arith
rises_more low high more (x ∷ xs) h so = (so.0, rises_more (x + 1) high more xs h so.1)
