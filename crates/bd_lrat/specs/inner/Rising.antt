-- Numbers that rise.
use Rattle.std.specs.Prelude.{ℕ, ◌+◌, ◌≤◌, List, [], ◌∷◌}

-- the numbers rise strictly, from low to below high
abbrev pub RisesWithin : ℕ → ℕ → List ℕ → Type 0
RisesWithin low high [] = low ≤ high
RisesWithin low high (x ∷ xs) = (low ≤ x) × RisesWithin (x + 1) high xs
