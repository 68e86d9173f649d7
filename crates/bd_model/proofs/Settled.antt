-- Facts that hold or don't, and that the two conditions are such.
use Rattle.std.proofs.Common.{◌≡◌, ℕ, zero, suc, ◌≤◌, Bool, true, false, List, [], ◌∷◌, refl, subst, arith, inl, inr}
use Rattle.std.specs.Prelude.{◌⊎◌, IsTrue, ◌==◌}
use Rattle.std.specs.List.{AllByRecursion}
use Rattle.std.proofs.lemmas.Bool.{eqb-true, eq-eqb}
use Rattle.bd_model.specs.DesignView.{DesignView, ExactView}
use Rattle.bd_model.specs.Same.{Same}
use Rattle.bd_model.specs.Conditions.{Abstraction, StandsForBy, CommutesBy}
use Rattle.bd_model.specs.declared.table.Scalar.{Scalar}
use Rattle.bd_model.specs.declared.table.Table.{Table}
use Rattle.bd_model.specs.declared.table.Value.{Value}
use Rattle.bd_model.proofs.SameDecided.{same_values, same_values-Decides}

-- a fact or its denial
abbrev pub Settled : Type 0 → Type 0
Settled P = P ⊎ (¬ P)

pub IsTrue-settled : (b : Bool) → Settled (IsTrue b)
IsTrue-settled true = inl refl
IsTrue-settled false = inr (λ h. absurd (cc h))

Same-settled : (a b : List Value) → Settled (Same a b)
Same-settled a b = cases (same_values a b) refl where
  cases : (t : Bool) → same_values a b ≡ t → Settled (Same a b)
  cases true e = inl ((same_values-Decides a b).0 e)
  cases false e = inr (λ h. absurd (cc (e, (same_values-Decides a b).1 h)))

equal-settled : (m n : ℕ) → Settled (m ≡ n)
equal-settled m n = cases (m == n) refl where
  cases : (t : Bool) → (m == n) ≡ t → Settled (m ≡ n)
  cases true e = inl (eqb-true m n e)
  cases false e = inr (λ h. absurd (cc (e, eq-eqb m n h)))

implies-settled : {P Q : Type 0} → Settled P → Settled Q → Settled (P → Q)
implies-settled (inl p) (inl q) = inl (λ _. q)
implies-settled (inl p) (inr n) = inr (λ h. n (h p))
implies-settled (inr n) q = inl (λ p. absurd (n p))

both-settled : {P Q : Type 0} → Settled P → Settled Q → Settled (P × Q)
both-settled (inl p) (inl q) = inl (p, q)
both-settled (inl p) (inr n) = inr (λ h. n h.1)
both-settled (inr n) q = inr (λ h. n h.0)

each-settled : {X : Type 0} (P : X → Type 0) → ((x : X) → Settled (P x)) → (xs : List X) → Settled (AllByRecursion P xs)
each-settled P h [] = inl tt
each-settled P h (x ∷ xs) = both-settled (h x) (each-settled P h xs)

some_step : {P : ℕ → Type 0} (n : ℕ) → Settled (P (suc n)) → Settled ((j : ℕ) × (j ≤ n) × P j) → Settled ((j : ℕ) × (j ≤ suc n) × P j)
some_step n (inl p) rest = inl (suc n, omega arith, p)
some_step n (inr none) (inl w) = inl (w.0, omega (arith, w.1), w.2)
some_step {P} n (inr none) (inr rest) = inr (λ w. elim (equal-settled w.0 (suc n)) [
  | inl e ↦ none (subst P e w.2)
  | inr e ↦ let small : w.0 ≤ n = omega (arith, w.1) in rest (w.0, small, w.2)
])

-- whether some number up to n has a settled property is settled
some-settled : (P : ℕ → Type 0) → ((j : ℕ) → Settled (P j)) → (n : ℕ) → Settled ((j : ℕ) × (j ≤ n) × P j)
some-settled P h zero = elim (h 0) [
  | inl p ↦ inl (0, omega arith, p)
  | inr none ↦ inr (λ w. let small : w.0 ≡ 0 = omega (arith, w.1) in none (subst P small w.2))
]
some-settled P h (suc n) = some_step {P = P} n (h (suc n)) (some-settled P h n)

pub Commutes-settled : (d : DesignView) (abs : Abstraction) (interp : List Table) (state : List Value) (inputs : List Scalar) → Settled (CommutesBy d abs interp state inputs)
Commutes-settled d abs interp state inputs =
    some-settled (StandsForBy d abs interp state inputs)
    (λ j. both-settled (each-settled _ (λ (e : ExactView). implies-settled (IsTrue-settled _) (equal-settled e.count j)) d.exact) (Same-settled _ _)) d.steps

-- what can't be denied holds
pub settled_holds : {P : Type 0} → Settled P → ¬ (¬ P) → P
settled_holds (inl p) h = p
settled_holds (inr n) h = absurd (h n)
