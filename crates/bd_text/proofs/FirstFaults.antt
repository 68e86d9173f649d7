-- A text has at most one first fault.
use Rattle.std.proofs.Common.{◌≡◌, ◌≢◌, ℕ, ◌⊎◌, zero, suc, true, false, cond, eqb, eq-eqb, List, [], ◌∷◌, get_or, refl, inl, inr, sym, ◌∙◌, subst, arith}
use Rattle.std.proofs.lemmas.Bool.{cases_eq}
use Rattle.bd_text.specs.Layout.{without_comments, blank_comment, read_at}
use Rattle.bd_text.specs.Faults.{IsBadByte, IsUnbalanced, IsTooDeep, IsFault, IsFirstFault}
use Rattle.bd_text.proofs.Steps.{past_end}
use Rattle.bd_text.specs.declared.code.Code.{Code}
use Rattle.bd_text.specs.declared.code.Code.TheVariants.{ByteNotAllowed, Unbalanced, TooDeep}

differs : (b : ℕ) → b ≢ 10 → eqb b 10 ≡ false
differs b ne = grind arith

mutual
  -- a byte reads as it is, or as a space
  pub read_or_space : (bs : List ℕ) (k : ℕ) → (get_or (without_comments bs) k 0 ≡ get_or bs k 0) ⊎ (get_or (without_comments bs) k 0 ≡ 32)
  read_or_space [] k = inl refl
  read_or_space (b ∷ bs) zero =
      elim (eqb b 59) as (λ v. (get_or (cond v (32 ∷ blank_comment bs) (b ∷ without_comments bs)) 0 0 ≡ b) ⊎ (get_or (cond v (32 ∷ blank_comment bs) (b ∷ without_comments bs)) 0 0 ≡ 32))
      [ true ↦ inr refl | false ↦ inl refl ]
  read_or_space (b ∷ bs) (suc k) =
      elim (eqb b 59) as (λ v. (get_or (cond v (32 ∷ blank_comment bs) (b ∷ without_comments bs)) (suc k) 0 ≡ get_or bs k 0) ⊎ (get_or (cond v (32 ∷ blank_comment bs) (b ∷ without_comments bs)) (suc k) 0 ≡ 32))
      [ true ↦ blank_or_space bs k | false ↦ read_or_space bs k ]

  blank_or_space : (bs : List ℕ) (k : ℕ) → (get_or (blank_comment bs) k 0 ≡ get_or bs k 0) ⊎ (get_or (blank_comment bs) k 0 ≡ 32)
  blank_or_space [] k = inl refl
  blank_or_space (b ∷ bs) zero =
      elim (cases_eq b 10) [
        | inl e ↦ (let t : eqb b 10 ≡ true = eq-eqb b 10 e in rw t (inl (sym e)))
        | inr ne ↦ (let t : eqb b 10 ≡ false = differs b ne in rw t (inr refl))
      ]
  blank_or_space (b ∷ bs) (suc k) =
      elim (eqb b 10) as (λ v. (get_or (cond v (10 ∷ without_comments bs) (32 ∷ blank_comment bs)) (suc k) 0 ≡ get_or bs k 0) ⊎ (get_or (cond v (10 ∷ without_comments bs) (32 ∷ blank_comment bs)) (suc k) 0 ≡ 32))
      [ true ↦ read_or_space bs k | false ↦ blank_or_space bs k ]

-- a byte that reads as other than a space reads as it is
pub read_is : (s : List ℕ) (k : ℕ) → read_at s k ≢ 32 → read_at s k ≡ get_or s k 0
read_is s k ne = elim (read_or_space s k) [ inl e ↦ e | inr e ↦ absurd (ne e) ]

-- which codes a fault may have
abbrev IsOneFault : List ℕ → ℕ → Code → Type 0
IsOneFault s o code = ((code ≡ ByteNotAllowed) × IsBadByte s o) ⊎ (((code ≡ Unbalanced) × IsUnbalanced s o) ⊎ ((code ≡ TooDeep) × IsTooDeep s o))

one_fault_of : (s : List ℕ) (o : ℕ) (code : Code) → IsFault s o code → IsOneFault s o code
one_fault_of s o ByteNotAllowed h = inl (refl, h)
one_fault_of s o Unbalanced h = inr (inl (refl, h))
one_fault_of s o TooDeep h = inr (inr (refl, h))
one_fault_of s o _ h = absurd h

bad_no_parenthesis : (s : List ℕ) (o b : ℕ) → IsBadByte s o → (b ≡ 40) ⊎ (b ≡ 41) → read_at s o ≡ b → ⊥
bad_no_parenthesis s o b bad (inl e) is =
    let raw = read_is s o (λ h. absurd (omega arith)) in bad.1 (inr (inr (inr (omega arith, omega arith))))
bad_no_parenthesis s o b bad (inr e) is =
    let raw = read_is s o (λ h. absurd (omega arith)) in bad.1 (inr (inr (inr (omega arith, omega arith))))

bad_no_unbalanced : (s : List ℕ) (o : ℕ) → IsBadByte s o → IsUnbalanced s o → ⊥
bad_no_unbalanced s o bad (inl h) = bad_no_parenthesis s o 41 bad (inr refl) h.0
bad_no_unbalanced s o bad (inr h) = omega (arith, bad.0, h.0)

bad_no_deep : (s : List ℕ) (o : ℕ) → IsBadByte s o → IsTooDeep s o → ⊥
bad_no_deep s o bad h = bad_no_parenthesis s o 40 bad (inl refl) h.0

unbalanced_no_deep : (s : List ℕ) (o : ℕ) → IsUnbalanced s o → IsTooDeep s o → ⊥
unbalanced_no_deep s o (inl h) g = omega (arith, h.0, g.0)
unbalanced_no_deep s o (inr h) g = omega (arith, g.0, past_end s o (omega (arith, h.0)))

same_code : (s : List ℕ) (o : ℕ) (code other : Code) → IsOneFault s o code → IsOneFault s o other → code ≡ other
same_code s o code other (inl h) (inl g) = h.0 ∙ sym g.0
same_code s o code other (inl h) (inr (inl g)) = absurd (bad_no_unbalanced s o h.1 g.1)
same_code s o code other (inl h) (inr (inr g)) = absurd (bad_no_deep s o h.1 g.1)
same_code s o code other (inr (inl h)) (inl g) = absurd (bad_no_unbalanced s o g.1 h.1)
same_code s o code other (inr (inl h)) (inr (inl g)) = h.0 ∙ sym g.0
same_code s o code other (inr (inl h)) (inr (inr g)) = absurd (unbalanced_no_deep s o h.1 g.1)
same_code s o code other (inr (inr h)) (inl g) = absurd (bad_no_deep s o g.1 h.1)
same_code s o code other (inr (inr h)) (inr (inl g)) = absurd (unbalanced_no_deep s o g.1 h.1)
same_code s o code other (inr (inr h)) (inr (inr g)) = h.0 ∙ sym g.0

pub one_first : (s : List ℕ) (o p : ℕ) (code other : Code) → IsFirstFault s o code → IsFirstFault s p other → (o ≡ p) × (code ≡ other)
one_first s o p code other h g =
    let same : o ≡ p = omega (arith, h.1 p other g.0, g.1 o code h.0) in
    (same, same_code s o code other (one_fault_of s o code h.0) (one_fault_of s o other (subst (λ n. IsFault s n other) (sym same) g.0)))
