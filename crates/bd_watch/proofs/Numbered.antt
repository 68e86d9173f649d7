-- Clauses under the ids from 1: what stands at a place, after the last, and everywhere.
use Rattle.std.proofs.Common.{◌≡◌, ℕ, zero, suc, ◌+◌, ◌-◌, ◌<◌, ◌≤◌, cond, List, [], ◌∷◌, Option, None, Some, IsSome, IfSome, length, get_or, refl, ap, ◌∙◌, subst, arith}
use Rattle.std.specs.List.{All, enumerate_from}
use Rattle.std.specs.Ordering.{nat_cmp}
use Rattle.std.specs.Cmp.{nat_cmp_total}
use Rattle.std.specs.FinMap.{get, find, get-from_entries}
use Rattle.std.proofs.lemmas.Bool.{eq-eqb, ne_eqb}
use Rattle.bd_cnf.specs.Literal.{Literal}
use Rattle.bd_cnf.specs.Problem.{problem}
use Rattle.bd_cnf.specs.Standing.{EachStanding}
use Rattle.bd_cnf.specs.Trail.{IsClosed, AreClosed}
use Rattle.bd_lrat.specs.Database.{numbered}
use Rattle.bd_lrat.proofs.Keys.{tied}
use Rattle.bd_lrat.proofs.Standings.{each_numbered}
use Rattle.bd_lrat.proofs.Ids.{up_to_formula}

found_at : (n i : ℕ) (cs : List (List Literal)) (d : List Literal) → i < length cs → find nat_cmp (n + i) (enumerate_from n cs) ≡ Some (get_or cs i d)
found_at n i [] d h = absurd (omega arith)
found_at n zero (c ∷ cs) d h = ap (λ b. cond b (Some c) (find nat_cmp (n + 0) (enumerate_from (n + 1) cs))) (tied (n + 0) n ∙ eq-eqb (n + 0) n (omega arith))
found_at n (suc i) (c ∷ cs) d h =
    let same : n + suc i ≡ (n + 1) + i = omega arith in
    ap (λ b. cond b (Some c) (find nat_cmp (n + suc i) (enumerate_from (n + 1) cs))) (tied (n + suc i) n ∙ ne_eqb (n + suc i) n (λ e. absurd (omega arith)))
    ∙ ap (λ k. find nat_cmp k (enumerate_from (n + 1) cs)) same
    ∙ found_at (n + 1) i cs d (omega arith)

-- the clause at a place, from 0, stands under the next number
pub numbered_at : (cs : List (List Literal)) (i : ℕ) (d : List Literal) → i < length cs → get (numbered cs) (i + 1) ≡ Some (get_or cs i d)
numbered_at cs i d h =
    get-from_entries nat_cmp_total (enumerate_from 1 cs) (i + 1)
    ∙ ap (λ k. find nat_cmp k (enumerate_from 1 cs)) (let same : i + 1 ≡ 1 + i = omega arith in same)
    ∙ found_at 1 i cs d h

-- nothing stands under the number after the last
pub numbered_past : (cs : List (List Literal)) → get (numbered cs) (length cs + 1) ≡ None
numbered_past cs = none (get (numbered cs) (length cs + 1)) (up_to_formula (problem 0 cs) (length cs + 1))
  where
    none : (o : Option (List Literal)) → (IsSome o → length cs + 1 ≤ length cs) → o ≡ None
    none None low = refl
    none (Some c) low = let bad : length cs + 1 ≤ length cs = low refl in absurd (omega arith)

-- what holds of each clause that stands holds of each clause
pub all_from_numbered : (P : List Literal → Type 0) (cs : List (List Literal)) → EachStanding P (numbered cs) → All P cs
all_from_numbered P cs each k d h = some (get (numbered cs) (k + 1)) (numbered_at cs k d h) (each (k + 1))
  where
    some : (o : Option (List Literal)) → o ≡ Some (get_or cs k d) → IfSome o P → P (get_or cs k d)
    some None e is = cc
    some (Some c) e is = let same : c ≡ get_or cs k d = cc in subst P same is

-- no clause is false or unit
pub closed_standing : (cs : List (List Literal)) (trail : List Literal) → All (IsClosed trail) cs → AreClosed (numbered cs) trail
closed_standing cs trail all = each_numbered (IsClosed trail) cs all

-- an id that names a clause is that of a place
pub id_within : (cs : List (List Literal)) (id : ℕ) → IsSome (get (numbered cs) id) → (0 < id) × (id ≤ length cs)
id_within cs id some = (positive id some, up_to_formula (problem 0 cs) id some)
  where
    above : (n k : ℕ) (es : List (List Literal)) → k < n → find nat_cmp k (enumerate_from n es) ≡ None
    above n k [] h = refl
    above n k (c ∷ es) h = ap (λ b. cond b (Some c) (find nat_cmp k (enumerate_from (n + 1) es))) (tied k n ∙ ne_eqb k n (λ e. absurd (omega arith))) ∙ above (n + 1) k es (omega arith)

    positive : (q : ℕ) → IsSome (get (numbered cs) q) → 0 < q
    positive zero h = let none : get (numbered cs) 0 ≡ None = get-from_entries nat_cmp_total (enumerate_from 1 cs) 0 ∙ above 1 0 cs (omega arith) in absurd (nothing (get (numbered cs) 0) none h)
      where
        nothing : (o : Option (List Literal)) → o ≡ None → IsSome o → ⊥
        nothing None e some_there = cc
        nothing (Some c) e some_there = cc
    positive (suc q) h = omega arith

-- and the clause there is its
pub clause_of_id : (cs : List (List Literal)) (id : ℕ) → IsSome (get (numbered cs) id) → get (numbered cs) id ≡ Some (get_or cs (id - 1) [])
clause_of_id cs id some =
    let both = id_within cs id some in
    let same : id ≡ (id - 1) + 1 = omega (arith, both.0) in
    ap (get (numbered cs)) same ∙ numbered_at cs (id - 1) [] (omega (arith, both.0, both.1))
