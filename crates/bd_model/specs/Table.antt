-- Tables and memories, read by the first matching row: uninterpreted functions that give equal results at
-- equal arguments, and memories with read and write (Burch and Dill 1994).
use Rattle.std.specs.Prelude.{◌≡◌, ℕ, List, [], ◌∷◌, ◌==◌, nat_eq, if◌then◌else◌}
use lib.Pointwise.{pointwise}
use Rattle.bd_model.specs.declared.table.Scalar.{Scalar}
use Rattle.bd_model.specs.declared.table.Row.{Row}
use Rattle.bd_model.specs.declared.table.Table.{Table}
use Rattle.bd_model.specs.declared.table.Slot.{Slot}
use Rattle.bd_model.specs.declared.table.Memory.{Memory}

-- the value of the first row with these arguments, or the default
abbrev pub row_value : List Row → List ℕ → Scalar → Scalar
row_value [] args default = default
row_value (r ∷ rs) args default =
    if pointwise nat_eq r.args args then r.value else row_value rs args default

-- a table's value at arguments
abbrev pub at : Table → List ℕ → Scalar
at t args = row_value t.rows args t.default

-- the word of the first row with this address, or the default
abbrev pub slot_value : List Slot → ℕ → ℕ → ℕ
slot_value [] a default = default
slot_value (s ∷ ss) a default = if s.address == a then s.value else slot_value ss a default

-- what a memory has at an address
abbrev pub read : Memory → ℕ → ℕ
read m a = slot_value m.rows a m.default

-- the memory with the word d at the address a
abbrev pub write : Memory → ℕ → ℕ → Memory
write m a d = record { default = m.default; rows = record { address = a; value = d } ∷ m.rows }

-- two memories read equal at every word
abbrev pub ReadSame : Memory → Memory → Type 0
ReadSame m n = (a : ℕ) → read m a ≡ read n a
