-- Literals of propositional logic, with variables counted from 1 as in DIMACS CNF.
use Rattle.std.specs.Prelude.{ℕ, Bool, not, ◌&&◌, ◌==◌, if◌then◌else◌, List, ◌∷◌}
use Rattle.std.specs.Fmt.{decimal}
use Rattle.std.specs.List.{list_any}

-- a variable, or its negation (DIMACS CNF: a number from 1, or a minus sign and such a number)
pub record Literal : Type 0 where
  pub var : ℕ
  pub positive : Bool

-- the literal of that variable, positive or not
abbrev pub literal : ℕ → Bool → Literal
literal var positive = record { var = var; positive = positive }

-- the literal of the same variable that is true where this one is false (propositional logic)
abbrev pub negate : Literal → Literal
negate l = literal l.var (not l.positive)

-- whether two literals are the same
abbrev pub literal_eq : Literal → Literal → Bool
literal_eq a b = (a.var == b.var) && (if a.positive then b.positive else not b.positive)

-- whether a list has the literal
abbrev pub has_literal : List Literal → Literal → Bool
has_literal ls l = list_any (literal_eq l) ls

-- whether some literal of a list has the variable
abbrev pub has_variable : List Literal → ℕ → Bool
has_variable ls var = list_any (λ l. l.var == var) ls

-- the value of a literal where v gives the values of the variables (propositional logic)
abbrev pub literal_value : (ℕ → Bool) → Literal → Bool
literal_value v l = if l.positive then v l.var else not (v l.var)

-- how DIMACS CNF and textual LRAT write a literal: its variable in decimal, after a minus sign where it is negative
abbrev pub literal_text : Literal → List ℕ
literal_text l = if l.positive then decimal l.var else 45 ∷ decimal l.var
