-- Clauses: disjunctions of literals, kept by rising variable.
use Rattle.std.specs.Prelude.{◌≡◌, ℕ, ◌<◌, ◌≤◌, Bool, true, List, [], ◌∷◌, IsTrue}
use Rattle.std.specs.List.{All, list_any, list_all}
use Rattle.bd_cnf.specs.Literal.{Literal, negate, has_literal, literal_value}

-- variables rise strictly, each above n; so none stands twice
abbrev pub RisesAbove : ℕ → List Literal → Type 0
RisesAbove n [] = Unit {0}
RisesAbove n (l ∷ ls) = (n < l.var) × RisesAbove l.var ls

-- a clause by rising variable, from 1
abbrev pub IsRising : List Literal → Type 0
IsRising ls = RisesAbove 0 ls

-- two lists have the same literals, whatever their order and repeats
abbrev pub SameLiterals : List Literal → List Literal → Type 0
SameLiterals c d = (l : Literal) → has_literal c l ≡ has_literal d l

-- some literal stands with its negation (tautology, propositional logic)
abbrev pub IsTautology : List Literal → Type 0
IsTautology ls = (l : Literal) × IsTrue (has_literal ls l) × IsTrue (has_literal ls (negate l))

-- the value of a clause: some literal is true (disjunction, propositional logic)
abbrev pub clause_value : (ℕ → Bool) → List Literal → Bool
clause_value v c = list_any (literal_value v) c

-- the value of a list of clauses: each of them is true (conjunction, propositional logic)
abbrev pub clauses_value : (ℕ → Bool) → List (List Literal) → Bool
clauses_value v cs = list_all (clause_value v) cs

-- v makes every clause true
abbrev pub Satisfies : (ℕ → Bool) → List (List Literal) → Type 0
Satisfies v cs = clauses_value v cs ≡ true

-- each variable of the clause is at most vars
abbrev pub IsWithin : ℕ → List Literal → Type 0
IsWithin vars c = All (λ l. l.var ≤ vars) c

-- within whatever variables c is, d is too
abbrev pub KeepsWithin : List Literal → List Literal → Type 0
KeepsWithin c d = (vars : ℕ) → IsWithin vars c → IsWithin vars d

-- two clauses have the same value at every assignment (equivalence, propositional logic)
abbrev pub HasSameValue : List Literal → List Literal → Type 0
HasSameValue c d = (v : ℕ → Bool) → clause_value v d ≡ clause_value v c

-- a clause is true at every assignment (validity, propositional logic)
abbrev pub IsAlwaysTrue : List Literal → Type 0
IsAlwaysTrue c = (v : ℕ → Bool) → clause_value v c ≡ true
