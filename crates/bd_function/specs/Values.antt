-- Finite maps from variables to scalars, and sets of variables.
use Rattle.std.specs.Prelude.{ℕ, Bool, false, List, Option, unwrap_or, nat_eq}
use Rattle.std.specs.List.{list_any}
use Rattle.std.specs.Map.{lookup}
use Rattle.bd_model.specs.declared.table.Scalar.{Scalar}
use Rattle.bd_model.specs.declared.table.Scalar.TheVariants as scalar

-- the scalar that the map holds at a variable
abbrev pub held : List (ℕ × Scalar) → ℕ → Option Scalar
held values v = lookup (nat_eq v) values

-- the scalar of a variable: false where the map holds none
abbrev pub scalar_of : List (ℕ × Scalar) → ℕ → Scalar
scalar_of values v = unwrap_or (held values v) (scalar.Bool false)

-- whether a variable is in the set
abbrev pub is_marked : List ℕ → ℕ → Bool
is_marked marked v = list_any (nat_eq v) marked
