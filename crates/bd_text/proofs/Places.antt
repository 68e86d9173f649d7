-- Bytes that stand somewhere in a text without comments.
use Rattle.std.proofs.Common.{◌≡◌, ◌≢◌, ℕ, ◌+◌, ◌-◌, ◌<◌, ◌≤◌, false, eqb, List, [], ◌∷◌, ◌++◌, length, get_or, take, drop, slice_range, refl, sym, ap, ◌∙◌, subst, arith}
use Rattle.std.specs.List.{All}
use Rattle.std.proofs.lemmas.List.{get_or_append_left, get_or-append-add, length-append, length-take-le, length-drop, get_or-take, get_or-drop, ext_get_or}
use Rattle.std.proofs.lemmas.List.Elements.{All-head, All-tail, All-get_or}
use Rattle.bd_text.specs.Layout.{IsSeparator, IsAtomByte, without_comments, read_at}
use Rattle.bd_text.specs.Grammar.{IsBlank, IsRun}

-- a text without semicolons reads as it is
pub without_comments-plain : (xs : List ℕ) → All (λ b. b ≢ 59) xs → without_comments xs ≡ xs
without_comments-plain [] h = refl
without_comments-plain (b ∷ bs) h =
    let ne : b ≢ 59 = All-head (λ x. x ≢ 59) b bs h in
    let test : eqb b 59 ≡ false = grind arith in
    rw test (ap (λ x. b ∷ x) (without_comments-plain bs (All-tail (λ x. x ≢ 59) b bs h)))

abbrev pub IsPlain : List ℕ → Type 0
IsPlain s = without_comments s ≡ s

pub read_plain : (s : List ℕ) (k : ℕ) → IsPlain s → read_at s k ≡ get_or s k 0
read_plain s k plain = ap (λ (t : List ℕ). get_or t k 0) plain

-- the bytes stand in the text at an offset
pub record Stands (s : List ℕ) (i : ℕ) (x : List ℕ) : Type 0 where
  pub within : i + length x ≤ length s
  pub each : (k : ℕ) → k < length x → get_or s (i + k) 0 ≡ get_or x k 0

pub stands_left : (s : List ℕ) (i : ℕ) (x y : List ℕ) → Stands s i (x ++ y) → Stands s i x
stands_left s i x y h = record {
  within = omega (arith, h.within, length-append x y);
  each = λ k lt. h.each k (omega (arith, length-append x y)) ∙ get_or_append_left x y 0 k lt;
}

pub stands_right : (s : List ℕ) (i : ℕ) (x y : List ℕ) → Stands s i (x ++ y) → Stands s (i + length x) y
stands_right s i x y h = record {
  within = omega (arith, h.within, length-append x y);
  each = λ k lt.
      let same : i + length x + k ≡ i + (length x + k) = omega arith in
      rw same (h.each (length x + k) (omega (arith, length-append x y)) ∙ get_or-append-add x y k 0);
}

pub stands_head : (s : List ℕ) (i b : ℕ) (xs : List ℕ) → Stands s i (b ∷ xs) → get_or s i 0 ≡ b
stands_head s i b xs h = let same : i ≡ i + 0 = omega arith in ap (λ k. get_or s k 0) same ∙ h.each 0 (omega arith)

pub stands_whole : (s : List ℕ) → Stands s 0 s
stands_whole s = record { within = omega arith; each = λ k lt. let same : 0 + k ≡ k = omega arith in ap (λ n. get_or s n 0) same }

pub stands_at : (s : List ℕ) (i : ℕ) (x : List ℕ) → Stands s i x → (p : ℕ) → i ≤ p → p < i + length x → get_or s p 0 ≡ get_or x (p - i) 0
stands_at s i x h p low high = let same : p ≡ i + (p - i) = omega arith in ap (λ k. get_or s k 0) same ∙ h.each (p - i) (omega arith)

-- what holds of each of the bytes holds where they stand
pub each_stands : (P : ℕ → Type 0) (s : List ℕ) (i : ℕ) (x : List ℕ) → Stands s i x → All P x → (p : ℕ) → i ≤ p → p < i + length x → P (get_or s p 0)
each_stands P s i x h all p low high = subst P (sym (stands_at s i x h p low high)) (All-get_or P x (p - i) 0 (omega arith) all)

pub slice_stands : (s : List ℕ) (i : ℕ) (x : List ℕ) → Stands s i x → x ≡ slice_range s i (i + length x)
slice_stands s i x h =
    let long : length (drop i s) ≡ length s - i = length-drop i s in
    let same : i + length x - i ≡ length x = omega arith in
    let e : length (take (i + length x - i) (drop i s)) ≡ length x =
    rw same (length-take-le (length x) (drop i s) (omega (arith, h.within))) in
    ext_get_or 0 x (take (i + length x - i) (drop i s)) (sym e) (λ k lt.
    sym (get_or-take (i + length x - i) (drop i s) k 0 (omega arith) ∙ get_or-drop i s k 0 ∙ h.each k lt))

pub blank_stands : (s : List ℕ) (i : ℕ) (x : List ℕ) → IsPlain s → Stands s i x → All IsSeparator x → IsBlank s i (i + length x)
blank_stands s i x plain h all = record {
  ordered = omega arith;
  blank = λ k low high. subst IsSeparator (sym (read_plain s k plain)) (each_stands IsSeparator s i x h all k low high);
}

pub run_stands : (s : List ℕ) (i : ℕ) (x : List ℕ) → IsPlain s → Stands s i x → 0 < length x → All IsAtomByte x → ¬ IsAtomByte (get_or s (i + length x) 0) → IsRun s i (i + length x)
run_stands s i x plain h nonempty all after = record {
  nonempty = omega arith;
  each = λ k low high. subst IsAtomByte (sym (read_plain s k plain)) (each_stands IsAtomByte s i x h all k low high);
  longest = λ b. after (subst IsAtomByte (read_plain s (i + length x) plain) b);
}

-- the byte after a tree: the first of what follows, or the one after it
pub next_byte : (s : List ℕ) (i : ℕ) (rest : List ℕ) → Stands s i rest → ¬ IsAtomByte (get_or rest 0 0) → ¬ IsAtomByte (get_or s (i + length rest) 0) → ¬ IsAtomByte (get_or s i 0)
next_byte s i [] h first after b = let same : i ≡ i + 0 = omega arith in after (subst (λ k. IsAtomByte (get_or s k 0)) same b)
next_byte s i (x ∷ xs) h first after b = first (subst IsAtomByte (stands_head s i x xs h) b)
