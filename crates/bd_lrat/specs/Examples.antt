-- Small formulas and lines, at which laws show what fresh and unsettled mean.
use Rattle.std.specs.Prelude.{ℕ, true, false, List, [], ◌∷◌, ◌++◌}
use Rattle.bd_cnf.specs.Literal.{Literal, literal}
use Rattle.bd_lrat.specs.declared.line.Hint.TheVariants.{Unit as UnitHint}
use Rattle.bd_lrat.specs.declared.line.Line.{Line}
use Rattle.bd_lrat.specs.declared.line.Line.TheVariants.{Add}

abbrev pub yes : ℕ → Literal
yes var = literal var true

abbrev pub no : ℕ → Literal
no var = literal var false

-- the four clauses over two variables, which no assignment satisfies
abbrev pub square : List (List Literal)
square = (yes 1 ∷ yes 2 ∷ []) ∷ (yes 1 ∷ no 2 ∷ []) ∷ (no 1 ∷ yes 2 ∷ []) ∷ (no 1 ∷ no 2 ∷ []) ∷ []

-- the first line of its refutation: 5 -1 0 3 4 0
abbrev pub square_line : Line
square_line = Add 5 (no 1 ∷ []) (UnitHint 3 ∷ UnitHint 4 ∷ [])

-- its first clause with one literal more: 5 1 2 3 0 1 0
abbrev pub weakened_line : Line
weakened_line = Add 5 (yes 1 ∷ yes 2 ∷ yes 3 ∷ []) (UnitHint 1 ∷ [])

-- two clauses that force a third variable both ways once the first two are true
abbrev pub forced_apart : List (List Literal)
forced_apart = (no 1 ∷ no 2 ∷ yes 3 ∷ []) ∷ (no 1 ∷ no 2 ∷ no 3 ∷ []) ∷ []

-- one clause by which two variables aren't both true
abbrev pub not_both : List (List Literal)
not_both = (no 1 ∷ no 2 ∷ []) ∷ []

-- the square and a clause of one literal, by which propagation alone refutes it
abbrev pub square_and_unit : List (List Literal)
square_and_unit = square ++ (yes 1 ∷ []) ∷ []
