-- Cases without rows that can't be read: where the first row with the arguments counts, a later one never does.
use Rattle.std.specs.Prelude.{List, map, nat_eq}
use Rattle.std.specs.List.{AllByRecursion, IsDistinct}
use lib.Pointwise.{pointwise}
use Rattle.bd_model.specs.declared.case.Case.{Case}
use Rattle.bd_model.specs.declared.table.Row.{Row}
use Rattle.bd_model.specs.declared.table.Slot.{Slot}
use Rattle.bd_model.specs.declared.table.Table.{Table}
use Rattle.bd_model.specs.declared.table.Value.{Value}
use Rattle.bd_model.specs.declared.table.Value.TheVariants as value

-- no two rows have the same arguments
abbrev pub ArgumentsDiffer : List Row → Type 0
ArgumentsDiffer rows = IsDistinct (pointwise nat_eq) (map (λ (r : Row). r.args) rows)

-- no two rows of a memory have the same address
abbrev pub AddressesDiffer : List Slot → Type 0
AddressesDiffer rows = IsDistinct nat_eq (map (λ (s : Slot). s.address) rows)

-- a scalar has no rows
abbrev pub ValueCounts : Value → Type 0
ValueCounts (value.Scalar x) = Unit {0}
ValueCounts (value.Memory m) = AddressesDiffer m.rows

-- each row of the case's tables and memories is the first one with its arguments or address
pub record EachRowCounts (c : Case) : Type 0 where
  pub tables : AllByRecursion (λ (t : Table). ArgumentsDiffer t.rows) c.interp
  pub memories : AllByRecursion ValueCounts c.state
