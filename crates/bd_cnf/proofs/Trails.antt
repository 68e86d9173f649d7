-- Values and trails, as they are set and cleared.
use Rattle.std.proofs.Common.{◌≡◌, ℕ, zero, suc, ◌<◌, false, List, [], ◌∷◌, length, get_or, take, map, refl, arith}
use Rattle.std.proofs.lemmas.Bool.{ne_eqb, and_left, or_from}
use Rattle.bd_cnf.specs.Literal.{Literal, negate, literal_eq, has_literal}
use Rattle.bd_cnf.specs.Clause.{RisesAbove}

-- literals of two variables differ
pub literal_eq-apart : (a b : Literal) → (a.var ≡ b.var → ⊥) → literal_eq a b ≡ false
literal_eq-apart a b apart = and_left _ _ (ne_eqb a.var b.var apart)

-- each variable of a rising list is above its floor
pub rising_at : (n i : ℕ) (c : List Literal) (d : Literal) → RisesAbove n c → i < length c → n < (get_or c i d).var
rising_at n i [] d up h = absurd (omega arith)
rising_at n zero (x ∷ xs) d up h = up.0
rising_at n (suc i) (x ∷ xs) d up h =
    let first : n < x.var = up.0 in
    let more : x.var < (get_or xs i d).var = rising_at x.var i xs d up.1 (omega arith) in
    omega arith

-- no literal before a place of a rising list has the variable that stands there
pub apart_before : (n i : ℕ) (c : List Literal) (d l : Literal) → RisesAbove n c → i < length c → l.var ≡ (get_or c i d).var → has_literal (map negate (take i c)) l ≡ false
apart_before n i [] d l up h e = absurd (omega arith)
apart_before n zero (x ∷ xs) d l up h e = refl
apart_before n (suc i) (x ∷ xs) d l up h e =
    let above : x.var < (get_or xs i d).var = rising_at x.var i xs d up.1 (omega arith) in
    or_from _ _ (literal_eq-apart l (negate x) (λ same. absurd (omega arith))) (apart_before x.var i xs d l up.1 (omega arith) e)
