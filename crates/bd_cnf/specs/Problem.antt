-- Formulas in conjunctive normal form, and their text in DIMACS CNF.
use Rattle.std.specs.Prelude.{◌≡◌, ℕ, String, string_bytes, List, [], ◌∷◌, ◌++◌, length, codes}
use Rattle.std.specs.Fmt.{decimal}
use Rattle.std.specs.List.{All, flat_map}
use Rattle.bd_cnf.specs.Literal.{Literal, literal_text}
use Rattle.bd_cnf.specs.Clause.{IsWithin}

-- the number of variables and the clauses, as the problem line of DIMACS CNF counts them
pub record Problem : Type 0 where
  pub vars : ℕ
  pub clauses : List (List Literal)

-- the problem of those variables and clauses
abbrev pub problem : ℕ → List (List Literal) → Problem
problem vars clauses = record { vars = vars; clauses = clauses }

-- the problem with one clause more, after the others
abbrev pub with_clause : Problem → List Literal → Problem
with_clause p clause = problem p.vars (p.clauses ++ clause ∷ [])

-- each variable of each clause is at most vars
abbrev pub AreWithin : ℕ → List (List Literal) → Type 0
AreWithin vars clauses = All (IsWithin vars) clauses

-- literals, each followed by a space (DIMACS CNF, textual LRAT)
abbrev pub literals_text : List Literal → List ℕ
literals_text c = flat_map (λ l. literal_text l ++ 32 ∷ []) c

-- a clause: its literals, a zero and a line feed (DIMACS CNF)
abbrev pub clause_line : List Literal → List ℕ
clause_line c = literals_text c ++ codes "0\n"

-- the problem line: variables and clauses (DIMACS CNF)
abbrev pub problem_line : ℕ → ℕ → List ℕ
problem_line vars clauses = codes "p cnf " ++ decimal vars ++ codes " " ++ decimal clauses ++ codes "\n"

-- the problem line, and a line for each clause (DIMACS CNF)
abbrev pub dimacs : Problem → List ℕ
dimacs p = problem_line p.vars (length p.clauses) ++ flat_map clause_line p.clauses

-- the new text is the old one with those bytes after it
abbrev pub Appends : {Z : Type 0} → String Z → String Z → List ℕ → Type 0
Appends old new bytes = string_bytes new ≡ string_bytes old ++ bytes
