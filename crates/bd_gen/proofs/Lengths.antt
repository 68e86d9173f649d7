-- How long the texts are: each stage has a line or three of at most 250 bytes in each part, and there are at most 12 stages.
use Rattle.std.proofs.Common.{◌≡◌, ℕ, zero, suc, ◌+◌, ◌-◌, ◌*◌, ◌<◌, ◌≤◌, List, [], ◌∷◌, ◌++◌, length, reverse, refl, ap, arith, length-append}
use Rattle.std.proofs.lemmas.Fmt.{length-decimal-le_succ}
use Rattle.std.proofs.lemmas.Grind.{flat_map-append}
use Rattle.std.proofs.lemmas.List.{reverse-append}
use Rattle.std.specs.List.{flat_map, range_with_len}
use Rattle.bd_gen.specs.Pipeline.{stages, valid_latch, destination_latch, result_latch, result_line, operand_line, next_valid, next_destination, next_result, declarations, lets, nexts, pipeline_text}

-- parts of at most 250 bytes, one after another
flat_short : (f : ℕ → List ℕ) (n first : ℕ) → ((i : ℕ) → i < first + n → length (f i) ≤ 250) → length (flat_map f (range_with_len first n)) ≤ 250 * n
flat_short f zero first short = omega arith
flat_short f (suc n) first short =
    let one = short first (omega arith) in
    let rest = flat_short f n (first + 1) (λ i low. short i (omega (arith, low))) in
    rw (length-append (f first) (flat_map f (range_with_len (first + 1) n))) (omega (arith, one, rest))

flat_back : (f : ℕ → List ℕ) (xs : List ℕ) → length (flat_map f (reverse xs)) ≡ length (flat_map f xs)
flat_back f [] = refl
flat_back f (x ∷ xs) =
    let turned = ap (λ s. length (flat_map f s)) (reverse-append (x ∷ []) xs) in
    let parts = ap length (flat_map-append f (reverse xs) (x ∷ [])) in
    grind (arith, length-append, turned, parts, flat_back f xs)

-- numbers up to 13 have few digits
module _ (i : ℕ) (low : i < 14) where
  latches_short : length (valid_latch i ++ destination_latch i) ≤ 250
  latches_short = let digits = length-decimal-le_succ i (omega (arith, low)) in grind (arith, length-append, digits)

  result_latch_short : length (result_latch i) ≤ 250
  result_latch_short = let digits = length-decimal-le_succ i (omega (arith, low)) in grind (arith, length-append, digits)

  result_short : length (result_line i) ≤ 250
  result_short = let digits = length-decimal-le_succ i (omega (arith, low)) in grind (arith, length-append, digits)

  operand_short : (drop : ℕ) → length (operand_line drop i) ≤ 250
  operand_short drop =
      let digits = length-decimal-le_succ i (omega (arith, low)) in
      let more = length-decimal-le_succ (i + 1) (omega (arith, low)) in
      grind (arith, length-append, digits, more)

  passing_short : length (next_valid i ++ next_destination i ++ next_result i) ≤ 250
  passing_short =
      let digits = length-decimal-le_succ i (omega (arith, low)) in
      let less = length-decimal-le_succ (i - 1) (omega (arith, low)) in
      grind (arith, length-append, digits, less)

module _ (depth drop : ℕ) (few : depth ≤ 12) where
  each : (f : ℕ → List ℕ) (first : ℕ) → 2 ≤ first → first ≤ 3 → ((i : ℕ) → i < 14 → length (f i) ≤ 250) → length (flat_map f (stages first depth)) ≤ 3000
  each f first from to short =
      let all = flat_short f (depth + 1 - first) first (λ i low. short i (omega (arith, low, few, to))) in omega (arith, all, few, from)

  declarations_short : length (declarations depth) ≤ 8000
  declarations_short =
      let first = each (λ i. valid_latch i ++ destination_latch i) 2 (omega arith) (omega arith) latches_short in
      let second = each result_latch 3 (omega arith) (omega arith) result_latch_short in
      grind (arith, length-append, first, second)

  lets_short : length (lets depth drop) ≤ 8000
  lets_short =
      let first = each result_line 3 (omega arith) (omega arith) result_short in
      let second = each (operand_line drop) 2 (omega arith) (omega arith) (λ i low. operand_short i low drop) in
      let back = flat_back (operand_line drop) (stages 2 depth) in
      let digits = length-decimal-le_succ (depth + 1) (omega (arith, few)) in
      grind (arith, length-append, first, second, back, digits)

  nexts_short : length (nexts depth) ≤ 8000
  nexts_short =
      let first = each (λ i. next_valid i ++ next_destination i ++ next_result i) 3 (omega arith) (omega arith) passing_short in
      let digits = length-decimal-le_succ depth (omega (arith, few)) in
      grind (arith, length-append, first, digits)

  -- the text of a pipeline of at most 12 stages
  pub pipeline_short : length (pipeline_text depth drop) ≤ 65536
  pipeline_short =
      let digits = length-decimal-le_succ (depth - 1) (omega (arith, few)) in
      grind (arith, length-append, declarations_short, lets_short, nexts_short, digits)
