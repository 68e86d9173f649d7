-- How literals are kept as numbers, and clauses in one flat list of them.
use Rattle.std.specs.Prelude.{◌≡◌, ℕ, ◌+◌, ◌*◌, ◌/◌, ◌%◌, ◌≤◌, Bool, true, false, ◌==◌, if◌then◌else◌, refl, List, slice_range}
use Rattle.std.proofs.Common.{arith, sym, ◌∙◌}
use Rattle.std.proofs.lemmas.Bool.{eqb-true, eq-eqb, false≢true}
use Rattle.bd_cnf.specs.Literal.{Literal}
use Rattle.bd_cnf.specs.declared.packed_clauses.ClauseRange.{ClauseRange}

-- a number is twice its half, and one more where it is odd
pub number_of_halves : (n : ℕ) → 2 * (n / 2) + (if n % 2 == 0 then 0 else 1) ≡ n
number_of_halves n = go (n % 2 == 0) refl
  where
    go : (b : Bool) → (n % 2 == 0) ≡ b → 2 * (n / 2) + (if b then 0 else 1) ≡ n
    go true e = let even : n % 2 ≡ 0 = eqb-true (n % 2) 0 e in omega arith
    go false e = let odd : n % 2 ≡ 0 → ⊥ = λ f. false≢true (sym e ∙ eq-eqb (n % 2) 0 f) in omega (arith, odd)

-- the literals of a range
abbrev pub clause_in : List Literal → ClauseRange → List Literal
clause_in literals range = slice_range literals range.start range.end

-- a range lies within so many literals
abbrev pub IsRange : ℕ → ClauseRange → Type 0
IsRange size range = (range.start ≤ range.end) × (range.end ≤ size)
