-- Numbers that are at most another.
use Rattle.std.proofs.Common.{◌≡◌, ◌⊎◌, ℕ, zero, suc, ◌+◌, ◌<◌, ◌≤◌, refl, ap, inl, inr, arith}

-- they are less, or the same
pub le-cases : (a b : ℕ) → a ≤ b → (suc a ≤ b) ⊎ (a ≡ b)
le-cases zero zero h = inr refl
le-cases zero (suc b) h = inl (omega arith)
le-cases (suc a) zero h = absurd (omega arith)
le-cases (suc a) (suc b) h = elim (le-cases a b (omega arith)) [ inl p ↦ inl (omega arith) | inr e ↦ inr (ap suc e) ]

pub below_last : (k n : ℕ) → k < n + 1 → (k < n) ⊎ (k ≡ n)
below_last k n h = elim (le-cases k n (omega (arith, h))) [ inl p ↦ inl (omega (arith, p)) | inr e ↦ inr e ]
