-- Pieces of a text: cut where the first byte that parts stands, their tokens, and how many there are.
use Rattle.std.proofs.Common.{◌≡◌, ℕ, zero, suc, ◌+◌, ◌<◌, Bool, true, false, not, cond, eqb, List, [], ◌∷◌, length, take, drop, count_by, refl, sym, ap, ◌∙◌, subst, inl, inr, arith, add-zero}
use Rattle.std.specs.List.{position_or_len}
use Rattle.std.proofs.lemmas.Bool.{cases_Bool, eqb-true, true≢false}
use Rattle.std.proofs.lemmas.List.Sums.{sum_by-cons}
use Rattle.bd_proof_text.specs.inner.Words.{after_feed}
use Rattle.bd_proof_text.specs.Tokens.{pieces, with_byte, is_feed, is_separator, lines, place, token, tokens_from, tokens_of, word_of}

-- the first piece stands before that place, and what is left begins with one that is empty
pub record CutsAt (parts : ℕ → Bool) (bytes : List ℕ) (at : ℕ) : Type 0 where
  pub later : List (List ℕ)
  pub first : pieces parts bytes ≡ take at bytes ∷ later
  pub left : pieces parts (drop at bytes) ≡ [] ∷ later

pieces-parting : (parts : ℕ → Bool) (b : ℕ) (bs : List ℕ) → parts b ≡ true → pieces parts (b ∷ bs) ≡ [] ∷ pieces parts bs
pieces-parting parts b bs h = ap (λ t. cond t ([] ∷ pieces parts bs) (with_byte b (pieces parts bs))) h

pieces-other : (parts : ℕ → Bool) (b : ℕ) (bs : List ℕ) → parts b ≡ false → pieces parts (b ∷ bs) ≡ with_byte b (pieces parts bs)
pieces-other parts b bs h = ap (λ t. cond t ([] ∷ pieces parts bs) (with_byte b (pieces parts bs))) h

-- where the first byte comes that parts
at-parting : (parts : ℕ → Bool) (b : ℕ) (bs : List ℕ) → parts b ≡ true → position_or_len parts (b ∷ bs) ≡ 0
at-parting parts b bs h = ap (λ t. cond (not t) (1 + position_or_len parts bs) 0) h

at-other : (parts : ℕ → Bool) (b : ℕ) (bs : List ℕ) → parts b ≡ false → position_or_len parts (b ∷ bs) ≡ 1 + position_or_len parts bs
at-other parts b bs h = ap (λ t. cond (not t) (1 + position_or_len parts bs) 0) h

pub cuts-at : (parts : ℕ → Bool) (bytes : List ℕ) (at : ℕ) → at ≡ position_or_len parts bytes → CutsAt parts bytes at
cuts-at parts [] zero e = record { later = []; first = refl; left = refl }
cuts-at parts [] (suc k) e = absurd (omega arith)
cuts-at parts (b ∷ bs) zero e = elim (cases_Bool (parts b)) [
  | inl h ↦ record { later = pieces parts bs; first = pieces-parting parts b bs h; left = pieces-parting parts b bs h }
  | inr h ↦ let z = at-other parts b bs h in absurd (omega (arith, e, z))
]
cuts-at parts (b ∷ bs) (suc k) e = elim (cases_Bool (parts b)) [
  | inl h ↦ let z = at-parting parts b bs h in absurd (omega (arith, e, z))
  | inr h ↦
      let z = at-other parts b bs h in
      let same : k ≡ position_or_len parts bs = omega (arith, e, z) in
      let more : CutsAt parts bs k = cuts-at parts bs k same in
      record { later = more.later; first = pieces-other parts b bs h ∙ ap (with_byte b) more.first; left = more.left }
]

-- ---- tokens

-- what is left is nothing, or begins with a byte of a token
abbrev pub BeginsToken : List ℕ → Type 0
BeginsToken [] = Unit {0}
BeginsToken (b ∷ bs) = is_separator b ≡ false

abbrev no_separator : ℕ → Bool
no_separator b = not (is_separator b)

-- separators that come first are gone over
pub skips : (line column : ℕ) (bytes : List ℕ) (at : ℕ) → at ≡ position_or_len (λ b. not (is_separator b)) bytes → (tokens_from line column bytes ≡ tokens_from line (column + at) (drop at bytes)) × BeginsToken (drop at bytes)
skips line column [] zero e = (ap (λ c. tokens_from line c []) (sym (add-zero column)), tt)
skips line column [] (suc k) e = absurd (omega arith)
skips line column (b ∷ bs) zero e = elim (cases_Bool (is_separator b)) [
  | inl h ↦ let z = at-other no_separator b bs (ap not h) in absurd (omega (arith, e, z))
  | inr h ↦ (ap (λ c. tokens_from line c (b ∷ bs)) (sym (add-zero column)), h)
]
skips line column (b ∷ bs) (suc k) e = elim (cases_Bool (is_separator b)) [
  | inl h ↦
      let z = at-other no_separator b bs (ap not h) in
      let same : k ≡ position_or_len no_separator bs = omega (arith, e, z) in
      let more = skips line (column + 1) bs k same in
      let further : column + 1 + k ≡ column + suc k = omega arith in (
        ap (tokens_of line column) (pieces-parting is_separator b bs h) ∙ more.0 ∙ ap (λ c. tokens_from line c (drop k bs)) further,
        more.1,
      )
  | inr h ↦ let z = at-parting no_separator b bs (ap not h) in absurd (omega (arith, e, z))
]

-- no token is left
pub no-token : (line column : ℕ) (rest : List ℕ) (at : ℕ) → BeginsToken rest → at ≡ position_or_len is_separator rest → length (take at rest) ≡ 0 → tokens_from line column rest ≡ []
no-token line column [] at begins e none = refl
no-token line column (b ∷ bs) zero begins e none = let z = at-other is_separator b bs begins in absurd (omega (arith, e, z))
no-token line column (b ∷ bs) (suc k) begins e none = absurd (omega arith)

-- the first token, and those after it
pub first-token : (line column : ℕ) (rest : List ℕ) (at : ℕ) → BeginsToken rest → at ≡ position_or_len is_separator rest → 0 < length (take at rest)
    → tokens_from line column rest ≡ token (place line column) (word_of (take at rest)) ∷ tokens_from line (column + length (take at rest)) (drop at rest)
first-token line column [] zero begins e some = absurd (omega arith)
first-token line column [] (suc k) begins e some = absurd (omega arith)
first-token line column (b ∷ bs) zero begins e some = absurd (omega arith)
first-token line column (b ∷ bs) (suc k) begins e some =
    let cut : CutsAt is_separator (b ∷ bs) (suc k) = cuts-at is_separator (b ∷ bs) (suc k) e in
    let text : List ℕ = b ∷ take k bs in
    ap (tokens_of line column) cut.first
    ∙ ap (λ ts. token (place line column) (word_of text) ∷ ts) (sym (ap (tokens_of line (column + length text)) cut.left))

counted-from : (n : ℕ) → eqb n 0 ≡ false → 0 < n
counted-from zero h = absurd (true≢false h)
counted-from (suc n) h = omega arith

-- what is left of a line, once the separators that come first are gone over, and the bytes of its first token
pub record Cuts (bytes : List ℕ) (begin : ℕ) (rest : List ℕ) (end : ℕ) (text : List ℕ) : Type 0 where
  pub begin_is : begin ≡ position_or_len (λ b. not (is_separator b)) bytes
  pub rest_is : rest ≡ drop begin bytes
  pub end_is : end ≡ position_or_len is_separator rest
  pub text_is : text ≡ take end rest

-- no bytes, no token
pub none-left : (line column : ℕ) (bytes : List ℕ) (begin : ℕ) (rest : List ℕ) (end : ℕ) (text : List ℕ) → Cuts bytes begin rest end text → eqb (length text) 0 ≡ true → tokens_from line column bytes ≡ []
none-left line column bytes begin rest end text cuts none =
    let gone = skips line column bytes begin cuts.begin_is in
    let begins : BeginsToken rest = subst BeginsToken (sym cuts.rest_is) gone.1 in
    let short : length (take end rest) ≡ 0 = ap length (sym cuts.text_is) ∙ eqb-true (length text) 0 none in
    gone.0 ∙ ap (tokens_from line (column + begin)) (sym cuts.rest_is) ∙ no-token line (column + begin) rest end begins cuts.end_is short

-- else a token, and those after it
pub some-left : (line column : ℕ) (bytes : List ℕ) (begin : ℕ) (rest : List ℕ) (end : ℕ) (text left : List ℕ) → Cuts bytes begin rest end text → left ≡ drop end rest → eqb (length text) 0 ≡ false
    → tokens_from line column bytes ≡ token (place line (column + begin)) (word_of text) ∷ tokens_from line (column + begin + length text) left
some-left line column bytes begin rest end text left cuts left_is some =
    let gone = skips line column bytes begin cuts.begin_is in
    let begins : BeginsToken rest = subst BeginsToken (sym cuts.rest_is) gone.1 in
    let more : 0 < length (take end rest) = subst (λ ts. 0 < length ts) cuts.text_is (counted-from (length text) some) in
    gone.0 ∙ ap (tokens_from line (column + begin)) (sym cuts.rest_is) ∙ first-token line (column + begin) rest end begins cuts.end_is more
    ∙ (λ i. token (place line (column + begin)) (word_of (sym cuts.text_is i)) ∷ tokens_from line (column + begin + length (sym cuts.text_is i)) (sym left_is i))

-- ---- lines

with_byte-apart : (b : ℕ) (ps later : List (List ℕ)) → with_byte b ps ≡ [] ∷ later → ⊥
with_byte-apart b [] later e = cc
with_byte-apart b (p ∷ ps) later e = cc

left-after : (rest : List ℕ) (later : List (List ℕ)) → lines rest ≡ [] ∷ later → later ≡ after_feed rest
left-after [] later e = cc
left-after (b ∷ bs) later e = elim (cases_Bool (is_feed b)) [
  | inl h ↦ let f = pieces-parting is_feed b bs h in let g : [] ∷ lines bs ≡ [] ∷ later = sym f ∙ e in cc
  | inr h ↦ absurd (with_byte-apart b (lines bs) later (sym (pieces-other is_feed b bs h) ∙ e))
]

-- the first line, and those after it
pub first-line : (bytes : List ℕ) (at : ℕ) → at ≡ position_or_len is_feed bytes → lines bytes ≡ take at bytes ∷ after_feed (drop at bytes)
first-line bytes at e =
    let cut : CutsAt is_feed bytes at = cuts-at is_feed bytes at e in
    cut.first ∙ ap (λ ls. take at bytes ∷ ls) (left-after (drop at bytes) cut.later cut.left)

length-with_byte : (b : ℕ) (ps : List (List ℕ)) → 0 < length ps → length (with_byte b ps) ≡ length ps
length-with_byte b [] some = absurd (omega arith)
length-with_byte b (p ∷ ps) some = refl

-- each byte that parts makes one piece more
pub length-pieces : (parts : ℕ → Bool) (bytes : List ℕ) → length (pieces parts bytes) ≡ count_by parts bytes + 1
length-pieces parts [] = refl
length-pieces parts (b ∷ bs) =
    let rest : length (pieces parts bs) ≡ count_by parts bs + 1 = length-pieces parts bs in
    elim (cases_Bool (parts b)) [
      | inl h ↦
          let f : length (pieces parts (b ∷ bs)) ≡ suc (length (pieces parts bs)) = ap length (pieces-parting parts b bs h) in
          let g : count_by parts (b ∷ bs) ≡ 1 + count_by parts bs = sum_by-cons (λ x. cond (parts x) 1 0) b bs ∙ ap (λ t. cond t 1 0 + count_by parts bs) h in omega arith
      | inr h ↦
          let f : length (pieces parts (b ∷ bs)) ≡ length (pieces parts bs) = ap length (pieces-other parts b bs h) ∙ length-with_byte b (pieces parts bs) (omega arith) in
          let g : count_by parts (b ∷ bs) ≡ 0 + count_by parts bs = sum_by-cons (λ x. cond (parts x) 1 0) b bs ∙ ap (λ t. cond t 1 0 + count_by parts bs) h in omega arith
    ]
