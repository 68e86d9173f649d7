-- Places of names.
use Rattle.std.proofs.Common.{◌≡◌, ℕ, suc, ◌+◌, ◌<◌, Bool, true, false, List, [], ◌∷◌, length, Option, Some, None, option_map, if◌then◌else◌, refl, ap, arith}
use Rattle.bd_syntax.specs.Words.{same_text}
use Rattle.bd_case.specs.Reading.{place_of}

within_next : (r : Option ℕ) (i n : ℕ) → ((j : ℕ) → r ≡ Some j → j < n) → option_map suc r ≡ Some i → i < suc n
within_next None i n h e = absurd (cc)
within_next (Some j) i n h e = let lt : j < n = h j refl in let same : suc j ≡ i = cc in omega arith

-- a place that is found is one of the names
pub place_of-within : (name : List ℕ) (names : List (List ℕ)) (i : ℕ) → place_of name names ≡ Some i → i < length names
place_of-within name [] i e = absurd (cc)
place_of-within name (n ∷ ns) i e = elim (same_text n name) as (λ (b : Bool). (if b then Some 0 else option_map suc (place_of name ns)) ≡ Some i → i < suc (length ns)) [
  | true ↦ (λ is. let same : 0 ≡ i = cc in omega arith)
  | false ↦ (λ is. within_next (place_of name ns) i (length ns) (λ j h. place_of-within name ns j h) is)
] e

pub option_map-next : (at : ℕ) (r : Option ℕ) → option_map (λ k. at + k) (option_map suc r) ≡ option_map (λ k. at + 1 + k) r
option_map-next at None = refl
option_map-next at (Some k) = ap Some (omega arith)
