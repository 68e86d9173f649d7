-- The clause of literals, by rising variable, is the only rising one of the same literals.
use Rattle.std.proofs.Common.{◌≡◌, ℕ, ◌<◌, ◌≤◌, ◌⊎◌, Bool, true, false, ◌||◌, cond, eqb, ltb, List, [], ◌∷◌, refl, sym, ap, ◌∙◌, subst, inl, inr, arith}
use Rattle.std.proofs.lemmas.Bool.{cases_Bool, eqb-true, eq-eqb, false≢true, true≢false, false_from_ne_true, ltb-true, ltb-false, or_cases, or_left, or_right}
use Rattle.bd_cnf.specs.Literal.{Literal, negate, literal_eq, has_literal}
use Rattle.bd_cnf.specs.Clause.{IsRising, IsTautology, RisesAbove, SameLiterals}
use Rattle.bd_cnf.proofs.Literals.{literal_eq-refl, literal_eq-true, negate_from_apart, same_literal}
use Rattle.bd_cnf.proofs.Rising.{above_floor}
use Rattle.bd_proof_text.specs.ProofText.{clause_of, put_literal}

abbrev put_rest : Literal → Literal → List Literal → Bool → Bool → List Literal
put_rest l m ms low same = cond low (l ∷ m ∷ ms) (cond same (m ∷ ms) (m ∷ put_literal l ms))

put-low : (l m : Literal) (ms : List Literal) → ltb l.var m.var ≡ true → put_literal l (m ∷ ms) ≡ l ∷ m ∷ ms
put-low l m ms h = ap (λ t. put_rest l m ms t (eqb l.var m.var)) h

put-same : (l m : Literal) (ms : List Literal) → ltb l.var m.var ≡ false → eqb l.var m.var ≡ true → put_literal l (m ∷ ms) ≡ m ∷ ms
put-same l m ms h e = ap (λ t. put_rest l m ms t (eqb l.var m.var)) h ∙ ap (λ t. put_rest l m ms false t) e

put-high : (l m : Literal) (ms : List Literal) → ltb l.var m.var ≡ false → eqb l.var m.var ≡ false → put_literal l (m ∷ ms) ≡ m ∷ put_literal l ms
put-high l m ms h e = ap (λ t. put_rest l m ms t (eqb l.var m.var)) h ∙ ap (λ t. put_rest l m ms false t) e

not-eqb : (a b : ℕ) → eqb a b ≡ false → a ≡ b → ⊥
not-eqb a b h e = true≢false (sym (subst (λ c. eqb a c ≡ true) e (eqb-refl a)) ∙ h)
  where
    eqb-refl : (n : ℕ) → eqb n n ≡ true
    eqb-refl n = eq-eqb n n refl

-- a literal of a higher variable than the floor keeps the list rising
rises-put : (n : ℕ) (l : Literal) (ls : List Literal) → RisesAbove n ls → n < l.var → RisesAbove n (put_literal l ls)
rises-put n l [] up h = (h, tt)
rises-put n l (m ∷ ms) up h = elim (cases_Bool (ltb l.var m.var)) [
  | inl low ↦ subst (RisesAbove n) (sym (put-low l m ms low)) (h, (ltb-true l.var m.var low, up.1))
  | inr not_low ↦ elim (cases_Bool (eqb l.var m.var)) [
    | inl same ↦ subst (RisesAbove n) (sym (put-same l m ms not_low same)) up
    | inr other ↦
        let le : m.var ≤ l.var = ltb-false l.var m.var not_low in
        let apart : l.var ≡ m.var → ⊥ = not-eqb l.var m.var other in
        let above : m.var < l.var = omega (arith, apart) in
        subst (RisesAbove n) (sym (put-high l m ms not_low other)) (up.0, rises-put m.var l ms up.1 above)
  ]
]

or-again : (a b : Bool) → (a || b) ≡ (a || (a || b))
or-again true b = refl
or-again false b = refl

or-swap : (a b c : Bool) → (a || (b || c)) ≡ (b || (a || c))
or-swap true true c = refl
or-swap true false c = refl
or-swap false true c = refl
or-swap false false c = refl

or-first-false : (a b : Bool) → (a || b) ≡ false → a ≡ false
or-first-false true b h = h
or-first-false false b h = refl

or-second-false : (a b : Bool) → (a || b) ≡ false → b ≡ false
or-second-false true b h = absurd (true≢false h)
or-second-false false b h = h

-- of two literals of one variable that aren't complements, one is the other
same-unless-negated : (l m : Literal) → l.var ≡ m.var → literal_eq (negate l) m ≡ false → m ≡ l
same-unless-negated l m vars apart = elim (cases_sign l.positive m.positive) [
  | inl same ↦ sym (same_literal l m vars same)
  | inr other ↦ absurd (true≢false (sym (subst (λ (k : Literal). literal_eq (negate l) k ≡ true) (sym (negate_from_apart m l (sym vars) (λ e. other (sym e)))) (literal_eq-refl (negate l))) ∙ apart))
]
  where
    cases_sign : (p q : Bool) → (p ≡ q) ⊎ (p ≡ q → ⊥)
    cases_sign true true = inl refl
    cases_sign true false = inr true≢false
    cases_sign false true = inr false≢true
    cases_sign false false = inl refl

-- a literal more, where its negation isn't there
has-put : (l : Literal) (ls : List Literal) (k : Literal) → has_literal ls (negate l) ≡ false → has_literal (put_literal l ls) k ≡ (literal_eq k l || has_literal ls k)
has-put l [] k apart = refl
has-put l (m ∷ ms) k apart = elim (cases_Bool (ltb l.var m.var)) [
  | inl low ↦ ap (λ ls. has_literal ls k) (put-low l m ms low)
  | inr not_low ↦ elim (cases_Bool (eqb l.var m.var)) [
    | inl same ↦
        let is : m ≡ l = same-unless-negated l m (eqb-true l.var m.var same) (or-first-false _ _ apart) in
        ap (λ ls. has_literal ls k) (put-same l m ms not_low same)
        ∙ ap (λ (x : Literal). literal_eq k x || has_literal ms k) is
        ∙ or-again (literal_eq k l) (has_literal ms k)
        ∙ ap (λ (x : Literal). literal_eq k l || (literal_eq k x || has_literal ms k)) (sym is)
    | inr other ↦
        ap (λ ls. has_literal ls k) (put-high l m ms not_low other)
        ∙ ap (λ t. literal_eq k m || t) (has-put l ms k (or-second-false _ _ apart))
        ∙ or-swap (literal_eq k m) (literal_eq k l) (has_literal ms k)
  ]
]

-- a list that is no tautology has no complement of its first literal
first-apart : (l : Literal) (ls : List Literal) → (IsTautology (l ∷ ls) → ⊥) → has_literal ls (negate l) ≡ false
first-apart l ls free = false_from_ne_true _ (λ h. free (l, or_left _ _ (literal_eq-refl l), or_right (literal_eq (negate l) l) _ h))

rest-apart : (l : Literal) (ls : List Literal) → (IsTautology (l ∷ ls) → ⊥) → IsTautology ls → ⊥
rest-apart l ls free (k, here, there) = free (k, or_right (literal_eq k l) _ here, or_right (literal_eq (negate k) l) _ there)

pub has-clause_of : (ls : List Literal) → (IsTautology ls → ⊥) → SameLiterals (clause_of ls) ls
has-clause_of [] free k = refl
has-clause_of (l ∷ ls) free k =
    let rest : SameLiterals (clause_of ls) ls = has-clause_of ls (rest-apart l ls free) in
    has-put l (clause_of ls) k (rest (negate l) ∙ first-apart l ls free) ∙ ap (λ t. literal_eq k l || t) (rest k)

pub rises-clause_of : (ls : List Literal) → ((l : Literal) → has_literal ls l ≡ true → 0 < l.var) → IsRising (clause_of ls)
rises-clause_of [] counted = tt
rises-clause_of (l ∷ ls) counted =
    rises-put 0 l (clause_of ls) (rises-clause_of ls (λ k h. counted k (or_right (literal_eq k l) _ h))) (counted l (or_left _ _ (literal_eq-refl l)))

-- two rising lists of the same literals are one
pub rising-unique : (n : ℕ) (c d : List Literal) → RisesAbove n c → RisesAbove n d → SameLiterals c d → c ≡ d
rising-unique n [] [] up up' same = refl
rising-unique n [] (m ∷ ms) up up' same = absurd (false≢true (same m ∙ or_left _ _ (literal_eq-refl m)))
rising-unique n (l ∷ ls) [] up up' same = absurd (false≢true (sym (same l) ∙ or_left _ _ (literal_eq-refl l)))
rising-unique n (l ∷ ls) (m ∷ ms) up up' same =
    let heads : l ≡ m = first (or_cases _ _ (sym (same l) ∙ or_left _ _ (literal_eq-refl l))) (or_cases _ _ (same m ∙ or_left _ _ (literal_eq-refl m))) in
    let tails : SameLiterals ls ms = λ k. rest heads k (cases_Bool (literal_eq k l)) in
    let tail : ls ≡ ms = rising-unique l.var ls ms up.1 (subst (λ (x : Literal). RisesAbove x.var ms) (sym heads) up'.1) tails in
    λ i. heads i ∷ tail i
  where
    first : (literal_eq l m ≡ true) ⊎ (has_literal ms l ≡ true) → (literal_eq m l ≡ true) ⊎ (has_literal ls m ≡ true) → l ≡ m
    first (inl e) other = literal_eq-true l m e
    first (inr h) (inl e) = sym (literal_eq-true m l e)
    first (inr h) (inr h') =
        let a : m.var < l.var = above_floor m.var ms l up'.1 h in
        let b : l.var < m.var = above_floor l.var ls m up.1 h' in absurd (omega arith)

    none : (x k : Literal) (xs : List Literal) → RisesAbove x.var xs → k ≡ x → has_literal xs k ≡ false
    none x k xs rises e = false_from_ne_true _ (λ h. let a : x.var < k.var = above_floor x.var xs k rises h in let b : k.var ≡ x.var = ap (λ (y : Literal). y.var) e in omega arith)

    rest : l ≡ m → (k : Literal) → (literal_eq k l ≡ true) ⊎ (literal_eq k l ≡ false) → has_literal ls k ≡ has_literal ms k
    rest heads k (inl e) =
        let is : k ≡ l = literal_eq-true k l e in none l k ls up.1 is ∙ sym (none m k ms up'.1 (is ∙ heads))
    rest heads k (inr e) =
        ap (λ t. t || has_literal ls k) (sym e) ∙ same k ∙ ap (λ (x : Literal). literal_eq k x || has_literal ms k) (sym heads) ∙ ap (λ t. t || has_literal ms k) e

-- so a rising list of the literals is their clause
pub clause-is : (c ls : List Literal) → IsRising c → SameLiterals c ls → (IsTautology ls → ⊥) → c ≡ clause_of ls
clause-is c ls up same free =
    let counted : (l : Literal) → has_literal ls l ≡ true → 0 < l.var = λ l h. above_floor 0 c l up (same l ∙ h) in
    rising-unique 0 c (clause_of ls) up (rises-clause_of ls counted) (λ k. same k ∙ sym (has-clause_of ls free k))
