-- The open literals of a clause.
use Rattle.std.proofs.Common.{◌≡◌, ℕ, ◌+◌, ◌<◌, ◌≤◌, Bool, true, false, not, cond, List, [], ◌∷◌, ◌++◌, Option, None, Some, is_some, length, get_or, take, drop, sym, ap, ◌∙◌, subst, arith}
use Rattle.std.specs.List.{All, filter}
use Rattle.std.specs.Option.{option_to_list}
use Rattle.std.proofs.lemmas.Bool.{false≢true, not-true}
use Rattle.std.proofs.lemmas.List.{take-append-drop, drop_more}
use Rattle.std.proofs.lemmas.List.Elements.{All-head, All-filter, filter_passes, filter-append}
use Rattle.bd_cnf.specs.Literal.{Literal}
use Rattle.bd_cnf.specs.Trail.{is_false, open_literals}
use Rattle.bd_cnf.specs.Standing.{IsBelow}

-- an open literal isn't false
pub open_is_open : (trail clause : List Literal) (l : Literal) → open_literals trail clause ≡ l ∷ [] → is_false trail l ≡ false
open_is_open trail clause l e =
    let P : Literal → Type 0 = λ m. not (is_false trail m) ≡ true in
    not-true _ (All-head P l [] (subst (λ ls. All P ls) e (filter_passes (λ m. not (is_false trail m)) clause)))

-- and it is one of the clause's
pub open_is_below : (limit : ℕ) (trail clause : List Literal) (l : Literal) → IsBelow limit clause → open_literals trail clause ≡ l ∷ [] → l.var < limit
open_is_below limit trail clause l low e =
    let P : Literal → Type 0 = λ m. m.var < limit in
    All-head P l [] (subst (λ ls. All P ls) e (All-filter (λ m. not (is_false trail m)) P clause low))

-- an open literal after another makes two
pub two_open : (trail clause : List Literal) (i : ℕ) (l : Literal) (found : Option Literal) → i < length clause → l ≡ get_or clause i l → is_false trail l ≡ false → open_literals trail (take i clause) ≡ option_to_list found → is_some found ≡ true → 2 ≤ length (open_literals trail clause)
two_open trail clause i l None h is not_false so some = absurd (false≢true some)
two_open trail clause i l (Some x) h is not_false so some =
    let p : Literal → Bool = λ m. not (is_false trail m) in
    let passes : p l ≡ true = ap not not_false in
    let rest : drop i clause ≡ l ∷ drop (i + 1) clause = drop_more clause i l h ∙ ap (λ (m : Literal). m ∷ drop (i + 1) clause) (sym is) in
    let kept : filter p (l ∷ drop (i + 1) clause) ≡ l ∷ filter p (drop (i + 1) clause) = ap (λ b. cond b (l ∷ filter p (drop (i + 1) clause)) (filter p (drop (i + 1) clause))) passes in
    let whole : filter p clause ≡ filter p (take i clause) ++ filter p (drop i clause) = ap (filter p) (sym (take-append-drop i clause)) ∙ filter-append p (take i clause) (drop i clause) in
    let parts : filter p clause ≡ (x ∷ []) ++ (l ∷ filter p (drop (i + 1) clause)) =
    whole ∙ ap (λ ls. ls ++ filter p (drop i clause)) so ∙ ap (λ ls. (x ∷ []) ++ filter p ls) rest ∙ ap (λ ls. (x ∷ []) ++ ls) kept in
    subst (λ ls. 2 ≤ length ls) (sym parts) (omega arith)
