-- Literals of different variables: one more, one less, and how many there can be.
use Rattle.std.proofs.Common.{◌≡◌, ℕ, zero, suc, ◌+◌, ◌<◌, ◌≤◌, Bool, true, false, not, cond, List, [], ◌∷◌, ◌++◌, length, refl, sym, ap, ◌∙◌, subst, eqb, arith}
use Rattle.std.specs.List.{filter}
use Rattle.std.proofs.lemmas.Bool.{false≢true, or_parts, or_from, ne_eqb, eq-eqb, eqb-true, eqb-false}
use Rattle.std.proofs.lemmas.List.Folds.{list_any-append}
use Rattle.std.proofs.lemmas.List.Elements.{All-head, All-tail, All-nil, All-cons}
use Rattle.bd_cnf.specs.Literal.{Literal, has_variable}
use Rattle.bd_cnf.specs.Standing.{IsBelow}
use Rattle.bd_cnf.proofs.Literals.{filter_has}
use Rattle.bd_cnf.proofs.Closed.{part_variable}
use Rattle.bd_lrat.specs.Log.{HaveDifferentVariables}

-- one more literal whose variable is new
pub different_push : (ls : List Literal) (l : Literal) → HaveDifferentVariables ls → has_variable ls l.var ≡ false → HaveDifferentVariables (ls ++ l ∷ [])
different_push [] l so none = (refl, tt)
different_push (m ∷ ms) l so none =
    let parts = or_parts (eqb m.var l.var) _ none in (
      list_any-append (λ (k : Literal). eqb k.var m.var) ms (l ∷ []) ∙ or_from _ _ so.0 (or_from _ _ (ne_eqb l.var m.var (λ e. false≢true (sym parts.0 ∙ eq-eqb m.var l.var (sym e)))) refl),
      different_push ms l so.1 parts.1,
    )

-- and conversely
pub different_front : (ls : List Literal) (l : Literal) → HaveDifferentVariables (ls ++ l ∷ []) → HaveDifferentVariables ls × (has_variable ls l.var ≡ false)
different_front [] l so = (tt, refl)
different_front (m ∷ ms) l so =
    let rest = different_front ms l so.1 in
    let apart = or_parts _ _ (sym (list_any-append (λ (k : Literal). eqb k.var m.var) ms (l ∷ [])) ∙ so.0) in
    let last = or_parts (eqb l.var m.var) _ apart.1 in (
      (apart.0, rest.0),
      or_from _ _ (ne_eqb m.var l.var (λ e. false≢true (sym last.0 ∙ eq-eqb l.var m.var (sym e)))) rest.1,
    )

-- a front of different variables
pub different_take : (xs ys : List Literal) → HaveDifferentVariables (xs ++ ys) → HaveDifferentVariables xs
different_take [] ys so = tt
different_take (x ∷ xs) ys so = ((or_parts _ _ (sym (list_any-append (λ (l : Literal). eqb l.var x.var) xs ys) ∙ so.0)).0, different_take xs ys so.1)

-- the literals of other variables
abbrev without : ℕ → List Literal → List Literal
without var ls = filter (λ l. not (eqb l.var var)) ls

without_none : (var : ℕ) (ls : List Literal) → has_variable ls var ≡ false → without var ls ≡ ls
without_none var [] none = refl
without_none var (l ∷ ls) none =
    let parts = or_parts (eqb l.var var) _ none in
    ap (λ b. cond (not b) (l ∷ without var ls) (without var ls)) parts.0 ∙ ap (λ ks. l ∷ ks) (without_none var ls parts.1)

different_without : (var : ℕ) (ls : List Literal) → HaveDifferentVariables ls → HaveDifferentVariables (without var ls)
different_without var [] so = tt
different_without var (l ∷ ls) so = first (eqb l.var var) (different_without var ls so.1)
  where
    first : (b : Bool) → HaveDifferentVariables (without var ls) → HaveDifferentVariables (cond (not b) (l ∷ without var ls) (without var ls))
    first true rest = rest
    first false rest = (part_variable (without var ls) ls l.var (λ m h. (filter_has (λ k. not (eqb k.var var)) ls m h).0) so.0, rest)

length_without : (var : ℕ) (ls : List Literal) → HaveDifferentVariables ls → length ls ≤ length (without var ls) + 1
length_without var [] so = omega arith
length_without var (l ∷ ls) so = first (length_without var ls so.1) (eqb l.var var) refl
  where
    first : length ls ≤ length (without var ls) + 1 → (b : Bool) → eqb l.var var ≡ b → length (l ∷ ls) ≤ length (cond (not b) (l ∷ without var ls) (without var ls)) + 1
    first rest true e =
        let same : l.var ≡ var = eqb-true l.var var e in
        let all : without var ls ≡ ls = without_none var ls (subst (λ v. has_variable ls v ≡ false) same so.0) in
        omega (arith, ap length all)
    first rest false e = omega arith

below_less : (n : ℕ) (ls : List Literal) → IsBelow (suc n) ls → IsBelow n (without n ls)
below_less n [] low = All-nil (λ (l : Literal). l.var < n)
below_less n (l ∷ ls) low = first (below_less n ls (All-tail (λ (m : Literal). m.var < suc n) l ls low)) (eqb l.var n) refl
  where
    first : IsBelow n (without n ls) → (b : Bool) → eqb l.var n ≡ b → IsBelow n (cond (not b) (l ∷ without n ls) (without n ls))
    first rest true e = rest
    first rest false e =
        let under : l.var < suc n = All-head (λ (m : Literal). m.var < suc n) l ls low in
        let apart : l.var ≡ n → ⊥ = eqb-false l.var n e in
        All-cons (λ (m : Literal). m.var < n) l (without n ls) (omega (arith, apart)) rest

-- there are no more of them than variables
pub different_bounded : (n : ℕ) (ls : List Literal) → HaveDifferentVariables ls → IsBelow n ls → length ls ≤ n
different_bounded zero [] so low = omega arith
different_bounded zero (l ∷ ls) so low = let bad : l.var < 0 = All-head (λ (m : Literal). m.var < 0) l ls low in absurd (omega arith)
different_bounded (suc n) ls so low =
    let less : length (without n ls) ≤ n = different_bounded n (without n ls) (different_without n ls so) (below_less n ls low) in
    omega (arith, length_without n ls so)

-- and fewer where a variable is free
pub different_room : (n : ℕ) (ls : List Literal) (l : Literal) → HaveDifferentVariables ls → IsBelow n ls → has_variable ls l.var ≡ false → l.var < n → length ls < n
different_room n ls l so low free under =
    let all : length (l ∷ ls) ≤ n = different_bounded n (l ∷ ls) (free, so) (All-cons (λ (m : Literal). m.var < n) l ls under low) in
    omega arith
