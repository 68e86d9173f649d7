-- Three truth values of which not exactly two are true.
use Rattle.std.proofs.Common.{◌≡◌, Bool, true, false, refl, arith}
use Rattle.std.proofs.lemmas.Bool.{false≢true}
use Rattle.bd_transitive.specs.Triangle.{IsNotTwo}

-- where any two give the third
pub not_two_from : (a b c : Bool) → (a ≡ true → b ≡ true → c ≡ true) → (a ≡ true → c ≡ true → b ≡ true) → (b ≡ true → c ≡ true → a ≡ true) → IsNotTwo a b c
not_two_from true true true ab ac bc = λ e. omega arith
not_two_from true true false ab ac bc = λ e. false≢true (ab refl refl)
not_two_from true false true ab ac bc = λ e. false≢true (ac refl refl)
not_two_from true false false ab ac bc = λ e. omega arith
not_two_from false true true ab ac bc = λ e. false≢true (bc refl refl)
not_two_from false true false ab ac bc = λ e. omega arith
not_two_from false false true ab ac bc = λ e. omega arith
not_two_from false false false ab ac bc = λ e. omega arith

-- two of them give the third
pub third_true : (a b c : Bool) → IsNotTwo a b c → a ≡ true → b ≡ true → c ≡ true
third_true true true true h e f = refl
third_true true true false h e f = absurd (h refl)
third_true true false c h e f = absurd (false≢true f)
third_true false b c h e f = absurd (false≢true e)

-- the order does not matter
pub not_two_swap : (a b c : Bool) → IsNotTwo a b c → IsNotTwo b a c
not_two_swap true true c h = h
not_two_swap true false true h = λ e. h refl
not_two_swap true false false h = λ e. omega arith
not_two_swap false true true h = λ e. h refl
not_two_swap false true false h = λ e. omega arith
not_two_swap false false c h = h

pub not_two_turn : (a b c : Bool) → IsNotTwo a b c → IsNotTwo a c b
not_two_turn a true true h = h
not_two_turn true true false h = λ e. h refl
not_two_turn false true false h = λ e. omega arith
not_two_turn true false true h = λ e. h refl
not_two_turn false false true h = λ e. omega arith
not_two_turn a false false h = h
