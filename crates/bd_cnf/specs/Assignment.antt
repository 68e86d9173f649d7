-- Assignments of truth values to variables.
use Rattle.std.specs.Prelude.{ℕ, Bool, false}
use Rattle.std.specs.Ordering.{nat_cmp}
use Rattle.std.specs.FinMap.{FinMap, get}
use Rattle.std.specs.Prelude.{unwrap_or}

-- the value that an assignment gives a variable: false where it holds none
abbrev pub value_of : FinMap nat_cmp Bool → ℕ → Bool
value_of a v = unwrap_or (get a v) false
