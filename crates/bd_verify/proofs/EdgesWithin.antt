-- The variables of a formula with its edges' clauses.
use Rattle.std.proofs.Common.{ℕ, ◌≤◌, ◌++◌, false, List, [], ◌∷◌, All, map, arith}
use Rattle.std.proofs.lemmas.List.Elements.{All-append, All-cons, All-head, All-nil, All-tail, All-weaker}
use Rattle.bd_cnf.specs.Literal.{Literal, literal}
use Rattle.bd_cnf.specs.Clause.{IsWithin}
use Rattle.bd_cnf.specs.Problem.{AreWithin}
use Rattle.bd_verify.specs.Kept.{denial}

within-more : (m n : ℕ) (cs : List (List Literal)) → m ≤ n → AreWithin m cs → AreWithin n cs
within-more m n cs le = All-weaker (IsWithin m) (IsWithin n) (λ c. All-weaker (λ (l : Literal). l.var ≤ m) (λ (l : Literal). l.var ≤ n) (λ l low. omega (arith, low, le)) c) cs

denials-within : (n : ℕ) (xs : List ℕ) → All (λ x. x ≤ n) xs → AreWithin n (map denial xs)
denials-within n [] low = All-nil (IsWithin n)
denials-within n (x ∷ xs) low =
    let first : x ≤ n = All-head (λ y. y ≤ n) x xs low in
    All-cons (IsWithin n) (denial x) (map denial xs)
    (All-cons (λ (l : Literal). l.var ≤ n) (literal x false) [] first (All-nil (λ (l : Literal). l.var ≤ n)))
    (denials-within n xs (All-tail (λ y. y ≤ n) x xs low))

pub edges-within : (m n : ℕ) (old triangles : List (List Literal)) (denied : List ℕ) → m ≤ n → AreWithin m old → AreWithin n triangles → All (λ x. x ≤ n) denied
    → AreWithin n (old ++ triangles ++ map denial denied)
edges-within m n old triangles denied le first second third =
    All-append (IsWithin n) (old ++ triangles) (map denial denied) (All-append (IsWithin n) old triangles (within-more m n old le first) second) (denials-within n denied third)
