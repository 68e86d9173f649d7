-- What holds of each clause that stands, through additions and deletions.
use Rattle.std.proofs.Common.{◌≡◌, ℕ, ◌+◌, ◌<◌, ◌≤◌, cond, List, [], ◌∷◌, ◌++◌, None, Some, IfSome, length, refl, sym, ap, ◌∙◌, subst, arith, take, get_or}
use Rattle.std.specs.List.{All, enumerate_from}
use Rattle.std.specs.Ordering.{nat_cmp, eq_by_cmp}
use Rattle.std.specs.Cmp.{nat_cmp_total}
use Rattle.std.specs.FinMap.{get, insert, remove, find, from_entries, get-from_entries, from_entries_push, nat_cmp-IsAntisymmetric}
use Rattle.std.proofs.lemmas.Bool.{ne_eqb}
use Rattle.std.proofs.lemmas.List.{take_more}
use Rattle.std.proofs.lemmas.List.Elements.{All-head, All-tail}
use Rattle.bd_cnf.specs.Literal.{Literal}
use Rattle.bd_cnf.specs.Standing.{Standing, EachStanding}
use Rattle.bd_cnf.proofs.Standings.{either, each_remove}
use Rattle.bd_lrat.specs.Database.{numbered, remove_all}
use Rattle.bd_lrat.proofs.Keys.{tied}

module _ (P : List Literal → Type 0) where
  pub each_remove_all : (ids : List ℕ) (standing : Standing) → EachStanding P standing → EachStanding P (remove_all standing ids)
  each_remove_all [] standing each = each
  each_remove_all (id ∷ ids) standing each = each_remove_all ids (remove standing id) (each_remove P standing id each)

  each_found : (n : ℕ) (cs : List (List Literal)) → All P cs → (q : ℕ) → IfSome (find nat_cmp q (enumerate_from n cs)) P
  each_found n [] all q = tt
  each_found n (c ∷ cs) all q = either P (eq_by_cmp nat_cmp q n) (Some c) _ (All-head P c cs all) (each_found (n + 1) cs (All-tail P c cs all) q)

  pub each_numbered : (cs : List (List Literal)) → All P cs → EachStanding P (numbered cs)
  each_numbered cs all q = subst (λ o. IfSome o P) (sym (get-from_entries nat_cmp_total (enumerate_from 1 cs) q)) (each_found 1 cs all q)

-- what a formula's clauses have under an id
pub get-numbered : (cs : List (List Literal)) (q : ℕ) → get (numbered cs) q ≡ find nat_cmp q (enumerate_from 1 cs)
get-numbered cs q = get-from_entries nat_cmp_total (enumerate_from 1 cs) q

enumerate-push : (n : ℕ) (cs : List (List Literal)) (c : List Literal) → enumerate_from n (cs ++ c ∷ []) ≡ enumerate_from n cs ++ (n + length cs, c) ∷ []
enumerate-push n [] c = ap (λ k. (k, c) ∷ []) (omega arith)
enumerate-push n (x ∷ xs) c = ap (λ es. (n, x) ∷ es) (enumerate-push (n + 1) xs c ∙ ap (λ k. enumerate_from (n + 1) xs ++ (k, c) ∷ []) (omega arith))

find_past : (n k : ℕ) (cs : List (List Literal)) → n + length cs ≤ k → find nat_cmp k (enumerate_from n cs) ≡ None
find_past n k [] h = refl
find_past n k (c ∷ cs) h =
    ap (λ b. cond b (Some c) (find nat_cmp k (enumerate_from (n + 1) cs))) (tied k n ∙ ne_eqb k n (λ e. absurd (omega arith)))
    ∙ find_past (n + 1) k cs (omega arith)

-- one more clause stands under the next id
pub numbered-push : (cs : List (List Literal)) (c : List Literal) → numbered (cs ++ c ∷ []) ≡ insert (numbered cs) (length cs + 1) c
numbered-push cs c =
    ap (λ es. from_entries es) (enumerate-push 1 cs c)
    ∙ from_entries_push nat_cmp_total nat_cmp-IsAntisymmetric (enumerate_from 1 cs) (1 + length cs) c (find_past 1 (1 + length cs) cs (omega arith))
    ∙ ap (λ k. insert (numbered cs) k c) (omega arith)

-- a loop's step over the clauses
pub numbered_more : (cs : List (List Literal)) (i : ℕ) (c : List Literal) → i < length cs → c ≡ get_or cs i c → length (take i cs) ≡ i → numbered (take (i + 1) cs) ≡ insert (numbered (take i cs)) (i + 1) c
numbered_more cs i c h is long =
    ap numbered (take_more cs i c h ∙ ap (λ (x : List Literal). take i cs ++ x ∷ []) (sym is)) ∙ numbered-push (take i cs) c ∙ ap (λ k. insert (numbered (take i cs)) (k + 1) c) long
