-- Lists of literals by rising variable.
use Rattle.std.proofs.Common.{◌≡◌, ℕ, ◌<◌, ◌≤◌, ◌+◌, ◌-◌, Bool, true, false, ◌||◌, List, [], ◌∷◌, ◌++◌, length, get_or, take, drop, refl, sym, ap, ◌∙◌, subst, inl, inr, arith, zero, suc}
use Rattle.std.proofs.lemmas.Bool.{false≢true, true≢false, or_cases, or_left}
use Rattle.std.specs.List.Sorted.{IsNonDecreasingBy}
use Rattle.std.proofs.lemmas.List.{length-take-le, get_or-take, take_more, take-append-drop}
use mathlib.Core.Bool.{beq, not}
use Rattle.bd_cnf.specs.Literal.{Literal, negate, literal_eq, has_literal}
use Rattle.bd_cnf.specs.Clause.{RisesAbove, IsRising, SameLiterals, IsTautology}
use Rattle.bd_cnf.proofs.Literals.{has_at, literal_eq-true, negate_apart, has-append, has-push, has_again}

-- the last variable of a list, n where it is empty
abbrev pub last_var : ℕ → List Literal → ℕ
last_var n [] = n
last_var n (l ∷ ls) = last_var l.var ls

pub last_var-push : (n : ℕ) (ls : List Literal) (m : Literal) → last_var n (ls ++ m ∷ []) ≡ m.var
last_var-push n [] m = refl
last_var-push n (l ∷ ls) m = last_var-push l.var ls m

-- the last variable is that of the last literal
pub last_var_read : (n k : ℕ) (ls : List Literal) (d : Literal) → length ls ≡ k + 1 → last_var n ls ≡ (get_or ls k d).var
last_var_read n k [] d h = absurd (omega arith)
last_var_read n zero (l ∷ []) d h = refl
last_var_read n (suc k) (l ∷ []) d h = absurd (omega arith)
last_var_read n zero (l ∷ m ∷ ls) d h = absurd (omega arith)
last_var_read n (suc k) (l ∷ m ∷ ls) d h = last_var_read l.var k (m ∷ ls) d (omega arith)

pub RisesAbove-push : (n : ℕ) (ls : List Literal) (m : Literal) → RisesAbove n ls → last_var n ls < m.var → RisesAbove n (ls ++ m ∷ [])
RisesAbove-push n [] m up h = (h, tt)
RisesAbove-push n (l ∷ ls) m up h = (up.0, RisesAbove-push l.var ls m up.1 h)

-- each literal of a rising list stands above its floor
pub above_floor : (n : ℕ) (ls : List Literal) (l : Literal) → RisesAbove n ls → has_literal ls l ≡ true → n < l.var
above_floor n [] l up h = absurd (false≢true h)
above_floor n (m ∷ ms) l up h =
    elim (or_cases _ _ h) [
      | inl e ↦ subst (λ (k : Literal). n < k.var) (sym (literal_eq-true l m e)) up.0
      | inr e ↦ let above : m.var < l.var = above_floor m.var ms l up.1 e in let first : n < m.var = up.0 in omega arith
    ]

-- a rising list has no literal with its negation
pub rising_not_tautology : (n : ℕ) (ls : List Literal) → RisesAbove n ls → IsTautology ls → ⊥
rising_not_tautology n ls up (l, here, there) = both n ls l up here there
  where
    both : (n : ℕ) (ls : List Literal) (l : Literal) → RisesAbove n ls → has_literal ls l ≡ true → has_literal ls (negate l) ≡ true → ⊥
    both n [] l up here there = false≢true here
    both n (m ∷ ms) l up here there =
        elim (or_cases _ _ here) [
          | inl e ↦ elim (or_cases _ _ there) [
            | inl f ↦ negate_apart l (literal_eq-true l m e ∙ sym (literal_eq-true (negate l) m f))
            | inr f ↦
                let above : m.var < l.var = above_floor m.var ms (negate l) up.1 f in
                let same : l.var ≡ m.var = ap (λ (k : Literal). k.var) (literal_eq-true l m e) in omega arith
          ]
          | inr e ↦ elim (or_cases _ _ there) [
            | inl f ↦
                let above : m.var < l.var = above_floor m.var ms l up.1 e in
                let same : l.var ≡ m.var = ap (λ (k : Literal). k.var) (literal_eq-true (negate l) m f) in omega arith
            | inr f ↦ both m.var ms l up.1 e f
          ]
        ]

-- a list by variable: what stands before a place is no higher
pub last_below : (i : ℕ) (xs : List Literal) (d : Literal) → i < length xs → IsNonDecreasingBy (λ (l : Literal). l.var) xs → last_var 0 (take i xs) ≤ (get_or xs i d).var
last_below zero xs d h up = omega arith
last_below (suc j) xs d h up =
    let long : length (take (suc j) xs) ≡ j + 1 = length-take-le (suc j) xs (omega arith) ∙ omega arith in
    let last = last_var_read 0 j (take (suc j) xs) d long in
    let same : get_or (take (suc j) xs) j d ≡ get_or xs j d = get_or-take (suc j) xs j d (omega arith) in
    let low : (get_or xs j d).var ≤ (get_or xs (suc j) d).var = up j (suc j) d (omega arith) h in
    subst (λ n. n ≤ (get_or xs (suc j) d).var) (sym (last ∙ ap (λ (l : Literal). l.var) same)) low

-- what is left of the literals that are done, once repeats are dropped
pub record IsMerged (lits done : List Literal) : Type 0 where
  pub rises : IsRising lits
  pub same : SameLiterals lits done
  pub last : last_var 0 lits ≡ last_var 0 done

-- a literal of a higher variable is appended
pub merged_push : (lits done : List Literal) (m : Literal) → IsMerged lits done → last_var 0 lits < m.var → IsMerged (lits ++ m ∷ []) (done ++ m ∷ [])
merged_push lits done m is h = record {
  rises = RisesAbove-push 0 lits m is.rises h;
  same = λ l. has-push lits m l ∙ ap (λ b. b || literal_eq l m) (is.same l) ∙ sym (has-push done m l);
  last = last_var-push 0 lits m ∙ sym (last_var-push 0 done m);
}

-- a literal that is there already is dropped
pub merged_drop : (lits done : List Literal) (m : Literal) → IsMerged lits done → last_var 0 lits ≡ m.var → has_literal lits m ≡ true → IsMerged lits (done ++ m ∷ [])
merged_drop lits done m is vars there = record {
  rises = is.rises;
  same = λ l. sym (has_again lits m l there) ∙ ap (λ b. b || literal_eq l m) (is.same l) ∙ sym (has-push done m l);
  last = vars ∙ sym (last_var-push 0 done m);
}

-- what the last literal of a slice says of the list
pub last_of : (s lits : List Literal) (m : Literal) → s ≡ lits → 0 < length s → m ≡ get_or s (length s - 1) m → (last_var 0 lits ≡ m.var) × (has_literal lits m ≡ true)
last_of s lits m e long is =
    let P : List Literal → Type 0 = λ xs. (last_var 0 xs ≡ m.var) × (has_literal xs m ≡ true) in
    subst P e (
      last_var_read 0 (length s - 1) s m (omega arith) ∙ ap (λ (l : Literal). l.var) (sym is),
      has_at (length s - 1) s m m (omega arith) is,
    )

pub last_of_none : (s lits : List Literal) → s ≡ lits → length s ≤ 0 → last_var 0 lits ≡ 0
last_of_none s lits e h = subst (λ xs. last_var 0 xs ≡ 0) e (none s h)
  where
    none : (xs : List Literal) → length xs ≤ 0 → last_var 0 xs ≡ 0
    none [] h = refl
    none (x ∷ xs) h = absurd (omega arith)

next : (i : ℕ) (sorted : List Literal) (m : Literal) → i < length sorted → m ≡ get_or sorted i m → take (i + 1) sorted ≡ take i sorted ++ m ∷ []
next i sorted m h is = take_more sorted i m h ∙ ap (λ (l : Literal). take i sorted ++ l ∷ []) (sym is)

-- a literal of another variable than the last is appended
pub merged_next : (i : ℕ) (sorted lits after : List Literal) (m : Literal) → i < length sorted → m ≡ get_or sorted i m → IsNonDecreasingBy (λ (l : Literal). l.var) sorted → IsMerged lits (take i sorted) → (last_var 0 lits ≡ m.var → ⊥) → after ≡ lits ++ m ∷ [] → IsMerged after (take (i + 1) sorted)
merged_next i sorted lits after m h is up so apart e =
    let below : last_var 0 (take i sorted) ≤ (get_or sorted i m).var = last_below i sorted m h up in
    let low : last_var 0 (take i sorted) ≤ m.var = subst (λ (l : Literal). last_var 0 (take i sorted) ≤ l.var) (sym is) below in
    let same : last_var 0 lits ≡ last_var 0 (take i sorted) = so.last in
    let higher : last_var 0 lits < m.var = omega (arith, apart) in
    let pushed : IsMerged (lits ++ m ∷ []) (take i sorted ++ m ∷ []) = merged_push lits (take i sorted) m so higher in
    subst (λ xs. IsMerged xs (take (i + 1) sorted)) (sym e) (subst (IsMerged (lits ++ m ∷ [])) (sym (next i sorted m h is)) pushed)

-- the last literal once more is dropped
pub merged_same : (i : ℕ) (sorted lits after : List Literal) (m last : Literal) → i < length sorted → m ≡ get_or sorted i m → IsMerged lits (take i sorted) → (last_var 0 lits ≡ last.var) × (has_literal lits last ≡ true) → last ≡ m → after ≡ lits → IsMerged after (take (i + 1) sorted)
merged_same i sorted lits after m last h is so found same e =
    let dropped : IsMerged lits (take i sorted ++ m ∷ []) = merged_drop lits (take i sorted) m so (found.0 ∙ ap (λ (l : Literal). l.var) same) (subst (λ (l : Literal). has_literal lits l ≡ true) same found.1) in
    subst (λ xs. IsMerged xs (take (i + 1) sorted)) (sym e) (subst (IsMerged lits) (sym (next i sorted m h is)) dropped)

has_in_front : (i : ℕ) (xs : List Literal) (l : Literal) → has_literal (take i xs) l ≡ true → has_literal xs l ≡ true
has_in_front i xs l h = subst (λ (ys : List Literal). has_literal ys l ≡ true) (take-append-drop i xs) (has-append (take i xs) (drop i xs) l ∙ or_left _ _ h)

-- the last literal's negation makes a tautology
pub merged_tautology : (i : ℕ) (sorted lits : List Literal) (m last : Literal) → i < length sorted → m ≡ get_or sorted i m → IsMerged lits (take i sorted) → has_literal lits last ≡ true → last ≡ negate m → IsTautology sorted
merged_tautology i sorted lits m last h is so there other = (
  m,
  has_at i sorted m m h is,
  subst (λ (l : Literal). has_literal sorted l ≡ true) other (has_in_front i sorted last (sym (so.same last) ∙ there)),
)

-- two signs that a test found equal, or apart
pub signs_same : (p q : Bool) → not (beq p q) ≡ false → p ≡ q
signs_same true true h = refl
signs_same true false h = absurd (true≢false h)
signs_same false true h = absurd (true≢false h)
signs_same false false h = refl

pub signs_apart : (p q : Bool) → not (beq p q) ≡ true → p ≡ q → ⊥
signs_apart true true h e = false≢true h
signs_apart true false h e = true≢false e
signs_apart false true h e = false≢true e
signs_apart false false h e = false≢true h
