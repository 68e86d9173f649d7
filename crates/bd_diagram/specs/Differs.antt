-- What tells two values apart: two memories read differently at an address of a row of one of them, or, at the
-- addresses that are in no row, by their defaults.
use Rattle.std.specs.Prelude.{ℕ, Bool, not, ◌&&◌, ◌||◌, length, ◌==◌, List, [], ◌∷◌, ◌++◌, if◌then◌else◌}
use Rattle.std.specs.List.{list_any}
use mathlib.Core.Bool.{beq}
use Rattle.bd_model.specs.Table.{read}
use Rattle.bd_model.specs.declared.table.Scalar.{Scalar}
use Rattle.bd_model.specs.declared.table.Scalar.TheVariants as scalar
use Rattle.bd_model.specs.declared.table.Slot.{Slot}
use Rattle.bd_model.specs.declared.table.Memory.{Memory}
use Rattle.bd_model.specs.declared.table.Value.{Value}
use Rattle.bd_model.specs.declared.table.Value.TheVariants as value
use Rattle.bd_diagram.specs.declared.difference.Difference.{Difference}
use Rattle.bd_diagram.specs.declared.difference.Difference.TheVariants.{Nothing, Latch}
use Rattle.bd_diagram.specs.declared.difference.Difference.TheVariants as apart

-- the addresses found so far, with this one where the memories read differently there, unless it stands there
abbrev pub with_differing : Memory → Memory → List ℕ → ℕ → List ℕ
with_differing m n found a =
    if read m a == read n a || list_any (λ b. b == a) found then found else found ++ a ∷ []

-- the addresses found so far, and those of the rows at which the memories read differently, each once
abbrev pub differing_after : Memory → Memory → List ℕ → List Slot → List ℕ
differing_after m n found [] = found
differing_after m n found (s ∷ ss) = differing_after m n (with_differing m n found s.address) ss

-- the addresses of the rows of either memory at which they read differently, each once
abbrev pub differing : Memory → Memory → List ℕ
differing m n = differing_after m n (differing_after m n [] m.rows) n.rows

-- whether the memories read differently at an address that is in no row
abbrev pub differ_elsewhere : Memory → Memory → Bool
differ_elsewhere m n = not (m.default == n.default)

abbrev pub memory_difference_by : List ℕ → Bool → Difference
memory_difference_by addresses elsewhere =
    if (length addresses == 0) && not elsewhere
    then Nothing
    else apart.Memory (record { addresses = addresses; elsewhere = elsewhere })

abbrev pub memory_difference : Memory → Memory → Difference
memory_difference m n = memory_difference_by (differing m n) (differ_elsewhere m n)

abbrev pub scalar_difference : Scalar → Scalar → Difference
scalar_difference (scalar.Bool b) (scalar.Bool c) = if beq b c then Nothing else Latch
scalar_difference (scalar.Word m) (scalar.Word n) = if m == n then Nothing else Latch
scalar_difference (scalar.Bool b) (scalar.Word n) = Latch
scalar_difference (scalar.Word m) (scalar.Bool c) = Latch

abbrev pub difference : Value → Value → Difference
difference (value.Scalar x) (value.Scalar y) = scalar_difference x y
difference (value.Memory m) (value.Memory n) = memory_difference m n
difference (value.Scalar x) (value.Memory n) = Latch
difference (value.Memory m) (value.Scalar y) = Latch

-- what tells the values of two states apart, place by place
abbrev pub differences : List Value → List Value → List Difference
differences [] ws = []
differences (v ∷ vs) [] = []
differences (v ∷ vs) (w ∷ ws) = difference v w ∷ differences vs ws
