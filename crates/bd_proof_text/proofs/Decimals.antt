-- Numbers that digits write.
use Rattle.std.proofs.Common.{◌≡◌, ℕ, zero, suc, ◌+◌, ◌-◌, ◌*◌, ◌<◌, ◌≤◌, false, leb, List, [], ◌∷◌, length, take, get_or, fold, arith}
use Rattle.std.proofs.lemmas.Bool.Decides.{nat_tests}
use Rattle.std.proofs.lemmas.List.Sums.{fold_more}
use Rattle.bd_proof_text.specs.Tokens.{decimal_value}

abbrev with_digit : ℕ → ℕ → ℕ
with_digit n b = 10 * n + (b - 48)

fold-with_digit : (n : ℕ) (xs : List ℕ) → n ≤ fold with_digit n xs
fold-with_digit n [] = omega arith
fold-with_digit n (x ∷ xs) = omega (arith, fold-with_digit (with_digit n x) xs)

fold-with_digit-take : (n k : ℕ) (xs : List ℕ) → fold with_digit n (take k xs) ≤ fold with_digit n xs
fold-with_digit-take n zero xs = fold-with_digit n xs
fold-with_digit-take n (suc k) [] = omega arith
fold-with_digit-take n (suc k) (x ∷ xs) = fold-with_digit-take (with_digit n x) k xs

-- digits write no less than the first of them with one more
pub decimal_value-more : (xs : List ℕ) (i : ℕ) → i < length xs → 10 * decimal_value (take i xs) + (get_or xs i 0 - 48) ≤ decimal_value xs
decimal_value-more xs i lt = omega (arith, fold_more with_digit 0 xs i 0 lt, fold-with_digit-take 0 (i + 1) xs)

-- digits that write too much already
pub too_large : (xs : List ℕ) (i most : ℕ) → i < length xs → most < 10 * decimal_value (take i xs) + (get_or xs i 0 - 48) → leb (decimal_value xs) most ≡ false
too_large xs i most lt more = let rest = decimal_value-more xs i lt in grind (arith, nat_tests)
