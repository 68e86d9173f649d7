-- Clauses that say of three variables that not exactly two are true.
use Rattle.std.proofs.Common.{◌≡◌, ◌↔◌, ℕ, ◌<◌, ◌≤◌, Bool, true, false, not, ◌&&◌, ◌||◌, cond, ltb, List, [], ◌∷◌, refl, sym, ◌∙◌, subst, inl, inr, arith}
use Rattle.std.specs.Prelude.{min, max}
use Rattle.std.proofs.lemmas.Bool.{cases_lt, false≢true, lt-ltb, le-ltb}
use Rattle.std.proofs.lemmas.List.Elements.{All-cons, All-nil}
use Rattle.bd_cnf.specs.Literal.{Literal, literal}
use Rattle.bd_cnf.specs.Clause.{IsWithin, Satisfies, clause_value, clauses_value}
use Rattle.bd_cnf.specs.Problem.{AreWithin}
use Rattle.bd_transitive.specs.Clauses.{implication, not_two, placed}
use Rattle.bd_transitive.specs.Triangle.{IsNotTwo}

-- two values give a third
abbrev gives : Bool → Bool → Bool → Bool
gives x y z = not x || (not y || z)

third_first : (x y z : Bool) → (z || (not x || (not y || false))) ≡ gives x y z
third_first true true true = refl
third_first true true false = refl
third_first true false true = refl
third_first true false false = refl
third_first false y true = refl
third_first false y false = refl

third_second : (x y z : Bool) → (not x || (z || (not y || false))) ≡ gives x y z
third_second true true true = refl
third_second true true false = refl
third_second true false true = refl
third_second true false false = refl
third_second false y z = refl

third_last : (x y z : Bool) → (not x || (not y || (z || false))) ≡ gives x y z
third_last true true true = refl
third_last true true false = refl
third_last true false z = refl
third_last false y z = refl

gives-swap : (x y z : Bool) → gives x y z ≡ gives y x z
gives-swap true true z = refl
gives-swap true false z = refl
gives-swap false true z = refl
gives-swap false false z = refl

-- a property of the literals in their three orders holds of them as they are placed
placed_by : (low high third : ℕ) (P : List Literal → Type 0)
    → (third < low → P (literal third true ∷ literal low false ∷ literal high false ∷ []))
    → (low ≤ third → third < high → P (literal low false ∷ literal third true ∷ literal high false ∷ []))
    → (low ≤ third → high ≤ third → P (literal low false ∷ literal high false ∷ literal third true ∷ []))
    → P (placed low high third)
placed_by low high third P first second last = elim (cases_lt third low) [
  | inl lt ↦ subst (λ b. P (cond b first_list (cond (ltb third high) second_list last_list))) (sym (lt-ltb third low lt)) (first lt)
  | inr ge ↦ elim (cases_lt third high) [
    | inl lt ↦ subst (λ b. P (cond b first_list (cond (ltb third high) second_list last_list))) (sym (le-ltb third low ge)) (subst (λ b. P (cond b second_list last_list)) (sym (lt-ltb third high lt)) (second ge lt))
    | inr more ↦ subst (λ b. P (cond b first_list (cond (ltb third high) second_list last_list))) (sym (le-ltb third low ge)) (subst (λ b. P (cond b second_list last_list)) (sym (le-ltb third high more)) (last ge more))
  ]
] where
  first_list : List Literal
  first_list = literal third true ∷ literal low false ∷ literal high false ∷ []

  second_list : List Literal
  second_list = literal low false ∷ literal third true ∷ literal high false ∷ []

  last_list : List Literal
  last_list = literal low false ∷ literal high false ∷ literal third true ∷ []

placed-within : (n low high third : ℕ) → low ≤ n → high ≤ n → third ≤ n → IsWithin n (placed low high third)
placed-within n low high third x y z = placed_by low high third (IsWithin n)
    (λ lt. three (literal third true) (literal low false) (literal high false) z x y)
    (λ ge lt. three (literal low false) (literal third true) (literal high false) x z y)
    (λ ge more. three (literal low false) (literal high false) (literal third true) x y z)
  where
    three : (k l m : Literal) → k.var ≤ n → l.var ≤ n → m.var ≤ n → IsWithin n (k ∷ l ∷ m ∷ [])
    three k l m p q r = All-cons (λ (x : Literal). x.var ≤ n) k (l ∷ m ∷ []) p (All-cons (λ (x : Literal). x.var ≤ n) l (m ∷ []) q (All-cons (λ (x : Literal). x.var ≤ n) m [] r (All-nil (λ (x : Literal). x.var ≤ n))))

placed-value : (v : ℕ → Bool) (low high third : ℕ) → clause_value v (placed low high third) ≡ gives (v low) (v high) (v third)
placed-value v low high third = placed_by low high third (λ c. clause_value v c ≡ gives (v low) (v high) (v third))
    (λ lt. third_first (v low) (v high) (v third))
    (λ ge lt. third_second (v low) (v high) (v third))
    (λ ge more. third_last (v low) (v high) (v third))

implication-value : (v : ℕ → Bool) (a b c : ℕ) → clause_value v (implication a b c) ≡ gives (v a) (v b) (v c)
implication-value v a b c = elim (cases_lt a b) [
  | inl less ↦
      let low : min a b ≡ a = omega arith in
      let high : max a b ≡ b = omega arith in
      placed-value v (min a b) (max a b) c ∙ (λ i. gives (v (low i)) (v (high i)) (v c))
  | inr more ↦
      let low : min a b ≡ b = omega arith in
      let high : max a b ≡ a = omega arith in
      placed-value v (min a b) (max a b) c ∙ (λ i. gives (v (low i)) (v (high i)) (v c)) ∙ gives-swap (v b) (v a) (v c)
]

implication-within : (n a b c : ℕ) → a ≤ n → b ≤ n → c ≤ n → IsWithin n (implication a b c)
implication-within n a b c x y z = placed-within n (min a b) (max a b) c (omega arith) (omega arith) z

two_from_gives : (x y z : Bool) → (gives x y z && (gives x z y && (gives y z x && true))) ≡ true → IsNotTwo x y z
two_from_gives true true true h = λ e. omega arith
two_from_gives true true false h = absurd (false≢true h)
two_from_gives true false true h = absurd (false≢true h)
two_from_gives true false false h = λ e. omega arith
two_from_gives false true true h = absurd (false≢true h)
two_from_gives false true false h = λ e. omega arith
two_from_gives false false true h = λ e. omega arith
two_from_gives false false false h = λ e. omega arith

gives_from_two : (x y z : Bool) → IsNotTwo x y z → (gives x y z && (gives x z y && (gives y z x && true))) ≡ true
gives_from_two true true true h = refl
gives_from_two true true false h = absurd (h refl)
gives_from_two true false true h = absurd (h refl)
gives_from_two true false false h = refl
gives_from_two false true true h = absurd (h refl)
gives_from_two false true false h = refl
gives_from_two false false true h = refl
gives_from_two false false false h = refl

-- the three clauses are satisfied exactly where not two of the variables are true
pub not_two-satisfied : (v : ℕ → Bool) (a b c : ℕ) → Satisfies v (not_two a b c) ↔ IsNotTwo (v a) (v b) (v c)
not_two-satisfied v a b c = (λ h. two_from_gives (v a) (v b) (v c) (sym value ∙ h), λ h. value ∙ gives_from_two (v a) (v b) (v c) h) where
  value : clauses_value v (not_two a b c) ≡ (gives (v a) (v b) (v c) && (gives (v a) (v c) (v b) && (gives (v b) (v c) (v a) && true)))
  value = λ i. implication-value v a b c i && (implication-value v a c b i && (implication-value v b c a i && true))

pub not_two-within : (n a b c : ℕ) → a ≤ n → b ≤ n → c ≤ n → AreWithin n (not_two a b c)
not_two-within n a b c x y z =
    All-cons (IsWithin n) (implication a b c) (implication a c b ∷ implication b c a ∷ []) (implication-within n a b c x y z)
    (All-cons (IsWithin n) (implication a c b) (implication b c a ∷ []) (implication-within n a c b x z y)
    (All-cons (IsWithin n) (implication b c a) [] (implication-within n b c a y z x) (All-nil (IsWithin n))))
