-- A text with a space in place of each byte of a comment.
use Rattle.std.proofs.Common.{◌≡◌, ◌≢◌, ℕ, zero, suc, ◌+◌, ◌<◌, ◌≤◌, ◌⊎◌, true, false, cond, eqb, List, [], ◌∷◌, length, get_or, drop, refl, inl, inr, sym, ap, ◌∙◌, subst, arith, eq-eqb}
use Rattle.std.proofs.lemmas.List.{drop_more, drop_all, get_or_past}
use Rattle.std.proofs.lemmas.Bool.{cases_lt}
use Rattle.bd_text.specs.Layout.{without_comments, blank_comment, read_at}

-- what holds at i, and of k + 1 if it holds of k, holds at j
pub up_from : (P : ℕ → Type 0) (i n : ℕ) → P i → ((k : ℕ) → i ≤ k → k < i + n → P k → P (k + 1)) → P (i + n)
up_from P i zero here next = subst P (omega arith) here
up_from P i (suc n) here next =
    let up : P (i + n) = up_from P i n here (λ k low high p. next k low (omega arith) p) in
    let e : i + n + 1 ≡ i + suc n = omega arith in
    subst P e (next (i + n) (omega arith) (omega arith) up)

mutual
  pub length-without_comments : (bs : List ℕ) → length (without_comments bs) ≡ length bs
  length-without_comments [] = refl
  length-without_comments (b ∷ bs) =
      elim (eqb b 59) as (λ v. length (cond v (32 ∷ blank_comment bs) (b ∷ without_comments bs)) ≡ suc (length bs))
      [ true ↦ ap suc (length-blank_comment bs) | false ↦ ap suc (length-without_comments bs) ]

  pub length-blank_comment : (bs : List ℕ) → length (blank_comment bs) ≡ length bs
  length-blank_comment [] = refl
  length-blank_comment (b ∷ bs) =
      elim (eqb b 10) as (λ v. length (cond v (10 ∷ without_comments bs) (32 ∷ blank_comment bs)) ≡ suc (length bs))
      [ true ↦ ap suc (length-without_comments bs) | false ↦ ap suc (length-blank_comment bs) ]

-- the text is outside comments before an offset
abbrev pub IsOutside : List ℕ → ℕ → Type 0
IsOutside s i = drop i (without_comments s) ≡ without_comments (drop i s)

-- it is inside a comment there
abbrev pub IsInside : List ℕ → ℕ → Type 0
IsInside s i = drop i (without_comments s) ≡ blank_comment (drop i s)

without_comments-code : (b : ℕ) (bs : List ℕ) → b ≢ 59 → without_comments (b ∷ bs) ≡ b ∷ without_comments bs
without_comments-code b bs ne = let e : eqb b 59 ≡ false = grind arith in rw e

without_comments-comment : (b : ℕ) (bs : List ℕ) → b ≡ 59 → without_comments (b ∷ bs) ≡ 32 ∷ blank_comment bs
without_comments-comment b bs is = let e : eqb b 59 ≡ true = eq-eqb b 59 is in rw e

blank_comment-comment : (b : ℕ) (bs : List ℕ) → b ≢ 10 → blank_comment (b ∷ bs) ≡ 32 ∷ blank_comment bs
blank_comment-comment b bs ne = let e : eqb b 10 ≡ false = grind arith in rw e

blank_comment-end : (b : ℕ) (bs : List ℕ) → b ≡ 10 → blank_comment (b ∷ bs) ≡ without_comments (b ∷ bs)
blank_comment-end b bs is =
    let e : eqb b 10 ≡ true = eq-eqb b 10 is in
    let o : eqb b 59 ≡ false = grind arith in
    rw (e, o) (ap (λ x. x ∷ without_comments bs) (sym is))

-- a byte outside comments reads as it is
pub read_outside : (s : List ℕ) (i : ℕ) → i < length s → get_or s i 0 ≢ 59 → IsOutside s i → (read_at s i ≡ get_or s i 0) × IsOutside s (i + 1)
read_outside s i lt ne out =
    let text = without_comments s in
    let in_text : i < length text = omega (arith, length-without_comments s) in
    let left = drop_more text i 0 in_text in
    let right = drop_more s i 0 lt in
    let code = without_comments-code (get_or s i 0) (drop (i + 1) s) ne in
    let both : get_or text i 0 ∷ drop (i + 1) text ≡ get_or s i 0 ∷ without_comments (drop (i + 1) s) =
    sym left ∙ out ∙ ap without_comments right ∙ code in
    (cc, cc)

-- a comment begins
pub read_semicolon : (s : List ℕ) (i : ℕ) → i < length s → get_or s i 0 ≡ 59 → IsOutside s i → (read_at s i ≡ 32) × IsInside s (i + 1)
read_semicolon s i lt is out =
    let text = without_comments s in
    let in_text : i < length text = omega (arith, length-without_comments s) in
    let left = drop_more text i 0 in_text in
    let right = drop_more s i 0 lt in
    let comment = without_comments-comment (get_or s i 0) (drop (i + 1) s) is in
    let both : get_or text i 0 ∷ drop (i + 1) text ≡ 32 ∷ blank_comment (drop (i + 1) s) =
    sym left ∙ out ∙ ap without_comments right ∙ comment in
    (cc, cc)

-- a comment goes on
pub read_inside : (s : List ℕ) (i : ℕ) → i < length s → get_or s i 0 ≢ 10 → IsInside s i → (read_at s i ≡ 32) × IsInside s (i + 1)
read_inside s i lt ne ins =
    let text = without_comments s in
    let in_text : i < length text = omega (arith, length-without_comments s) in
    let left = drop_more text i 0 in_text in
    let right = drop_more s i 0 lt in
    let comment = blank_comment-comment (get_or s i 0) (drop (i + 1) s) ne in
    let both : get_or text i 0 ∷ drop (i + 1) text ≡ 32 ∷ blank_comment (drop (i + 1) s) =
    sym left ∙ ins ∙ ap blank_comment right ∙ comment in
    (cc, cc)

-- a comment ends before a line feed, and at the end
pub leave_comment : (s : List ℕ) (i : ℕ) → i ≤ length s → (i ≡ length s) ⊎ (get_or s i 0 ≡ 10) → IsInside s i → IsOutside s i
leave_comment s i le (inl e) ins =
    let none : drop i s ≡ [] = drop_all i s (omega arith) in
    ins ∙ ap blank_comment none ∙ sym (ap without_comments none)
leave_comment s i le (inr e) ins =
    let lt : i < length s = elim (cases_lt i (length s)) [ inl a ↦ a | inr b ↦ absurd (omega (arith, get_or_past s i 0 b)) ] in
    let right = drop_more s i 0 lt in
    ins ∙ ap blank_comment right ∙ blank_comment-end (get_or s i 0) (drop (i + 1) s) e ∙ sym (ap without_comments right)
