-- How many pairs of a list pass a test.
use Rattle.std.proofs.Common.{◌≡◌, ◌+◌, Bool, cond, List, [], ◌∷◌, ◌++◌, map, refl, sym, ap, ◌∙◌, arith}
use Rattle.std.specs.Prelude.{count_by}
use Rattle.std.proofs.lemmas.List.Sums.{sum_by_push, sum_by-cons}
use Rattle.bd_transitive.specs.Triangle.{pair_count}

-- one item more makes as many pairs more as items before it pass with it
pub pair_count_push : {X : Type 0} (test : X → X → Bool) (xs : List X) (y : X) → pair_count test (xs ++ y ∷ []) ≡ pair_count test xs + count_by (λ x. test x y) xs
pair_count_push test [] y = refl
pair_count_push test (x ∷ xs) y =
    let rest = pair_count_push test xs y in
    let first = sum_by_push (λ z. cond (test x z) 1 0) xs y in
    let whole = sum_by-cons (λ z. cond (test z y) 1 0) x xs in
    omega arith

pub count_by-map : {X Y : Type 0} (p : Y → Bool) (f : X → Y) (xs : List X) → count_by p (map f xs) ≡ count_by (λ x. p (f x)) xs
count_by-map p f [] = refl
count_by-map p f (x ∷ xs) =
    let rest = count_by-map p f xs in
    sum_by-cons (λ y. cond (p y) 1 0) (f x) (map f xs) ∙ ap (λ n. cond (p (f x)) 1 0 + n) rest ∙ sym (sum_by-cons (λ z. cond (p (f z)) 1 0) x xs)

pub pair_count-map : {X Y : Type 0} (test : Y → Y → Bool) (f : X → Y) (xs : List X) → pair_count test (map f xs) ≡ pair_count (λ x z. test (f x) (f z)) xs
pair_count-map test f [] = refl
pair_count-map test f (x ∷ xs) = (λ j. count_by-map (test (f x)) f xs j + pair_count-map test f xs j)
