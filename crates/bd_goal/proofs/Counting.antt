-- The memories among the first entries.
use Rattle.std.proofs.Common.{◌≡◌, ℕ, ◌+◌, ◌<◌, ◌≤◌, List, take, length, get_or, ap, sym, ◌∙◌, arith, length-take}
use Rattle.std.specs.Prelude.{count_by, if◌then◌else◌}
use Rattle.std.proofs.lemmas.List.Sums.{count_by-le-length, sum_by_more}
use Rattle.bd_model.specs.declared.design.Entry as entry
use Rattle.bd_goal.specs.Formula.{is_memory}

abbrev pub memories_in : List entry.Entry → ℕ
memories_in entries = count_by (λ (x : entry.Entry). is_memory x.sort) entries

pub memories-more : (xs : List entry.Entry) (i : ℕ) (x : entry.Entry) → i < length xs → x ≡ get_or xs i x → memories_in (take (i + 1) xs) ≡ memories_in (take i xs) + (if is_memory x.sort then 1 else 0)
memories-more xs i x within is =
    sum_by_more (λ (y : entry.Entry). if is_memory y.sort then 1 else 0) xs i x within ∙ ap (λ (y : entry.Entry). memories_in (take i xs) + (if is_memory y.sort then 1 else 0)) (sym is)

pub memories-few : (xs : List entry.Entry) (i : ℕ) → memories_in (take i xs) ≤ length xs
memories-few xs i = omega (arith, count_by-le-length (λ (x : entry.Entry). is_memory x.sort) (take i xs), length-take i xs)
