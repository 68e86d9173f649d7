-- A trail as one list of tables, in the order of its text: a latch is a default without rows, a memory is a table of one
-- address, and an input has a row without arguments for each cycle. A case is a trail of one cycle.
use Rattle.std.specs.Prelude.{ℕ, zero, suc, ◌+◌, ◌^◌, ◌<◌, false, List, [], ◌∷◌, ◌++◌, map, length, take, drop, slice_index_or}
use Rattle.std.specs.List.{AllByRecursion, zip}
use Rattle.bd_model.specs.DesignView.{DesignView, PortView}
use Rattle.bd_model.specs.Value.{scalar_word, slot_of}
use Rattle.bd_model.specs.Cycle.{inputs_at}
use Rattle.bd_model.specs.declared.table.Scalar.{Scalar}
use Rattle.bd_model.specs.declared.table.Scalar.TheVariants as scalar
use Rattle.bd_model.specs.declared.table.Row.{Row}
use Rattle.bd_model.specs.declared.table.Table.{Table}
use Rattle.bd_model.specs.declared.table.Slot.{Slot}
use Rattle.bd_model.specs.declared.table.Value.{Value}
use Rattle.bd_model.specs.declared.table.Value.TheVariants as value
use Rattle.bd_model.specs.declared.design.Sort.{Sort}
use Rattle.bd_model.specs.declared.design.Sort.TheVariants as sort
use Rattle.bd_model.specs.declared.design.Entry.{Entry}
use Rattle.bd_model.specs.declared.case.Case.{Case}
use Rattle.bd_model.specs.declared.case.Trail.{Trail}

-- ---- cases as trails

abbrev pub trail_of : Case → Trail
trail_of c = record { interp = c.interp; state = c.state; inputs = c.inputs ∷ [] }

-- the case of the first cycle
abbrev pub case_of : Trail → Case
case_of t = record { interp = t.interp; state = t.state; inputs = inputs_at t 0 }

-- ---- to tables

abbrev pub constant_table : Scalar → Table
constant_table x = record { default = x; rows = [] }

abbrev pub row_of : Slot → Row
row_of slot = record { args = slot.address ∷ []; value = scalar.Word slot.value }

abbrev pub table_of_value : Value → Table
table_of_value (value.Scalar x) = constant_table x
table_of_value (value.Memory m) = record { default = scalar.Word m.default; rows = map row_of m.rows }

-- the values of the input at this place, cycle by cycle
abbrev pub column : ℕ → List (List Scalar) → List Scalar
column i inputs = map (λ xs. slice_index_or xs i (scalar.Bool false)) inputs

-- what a table has where nothing is given
abbrev pub default_of : Sort → Scalar
default_of sort.Bool = scalar.Bool false
default_of s = scalar.Word 0

abbrev pub value_row : Scalar → Row
value_row x = record { args = []; value = x }

abbrev pub values_table : Sort → List Scalar → Table
values_table s xs = record { default = default_of s; rows = map value_row xs }

-- the tables of the inputs from this place on
abbrev pub input_tables : ℕ → List PortView → List (List Scalar) → List Table
input_tables i [] inputs = []
input_tables i (p ∷ ps) inputs = values_table p.sort (column i inputs) ∷ input_tables (i + 1) ps inputs

abbrev pub tables_of : DesignView → Trail → List Table
tables_of d t = (t.interp ++ map table_of_value t.state) ++ input_tables 0 d.pipe.ports t.inputs

-- ---- from tables

abbrev pub value_of_table : Sort → Table → Value
value_of_table sort.Memory t =
    value.Memory (record { default = scalar_word t.default; rows = map slot_of t.rows })
value_of_table s t = value.Scalar t.default

-- the value of an input in a cycle
abbrev pub value_in : ℕ → Table → Scalar
value_in n t = slice_index_or (map (λ (r : Row). r.value) t.rows) n t.default

-- the values of all inputs, in so many cycles from this one on
abbrev pub inputs_from : ℕ → ℕ → List Table → List (List Scalar)
inputs_from n zero tables = []
inputs_from n (suc cycles) tables = map (value_in n) tables ∷ inputs_from (n + 1) cycles tables

-- the tables of the symbols, then those of the entries, then those of the inputs
abbrev pub trail_from : DesignView → ℕ → List Table → Trail
trail_from d cycles tables = record {
  interp = take (length d.symbols) tables;
  state =
      map (λ (p : Entry × Table). value_of_table p.0.sort p.1)
      (zip d.pipe.entries (drop (length d.symbols) tables));
  inputs = inputs_from 0 cycles (drop (length d.symbols + length d.pipe.entries) tables);
}

-- ---- words of 64 bits

abbrev pub IsShort : ℕ → Type 0
IsShort n = n < 2 ^ 64

abbrev pub IsShortScalar : Scalar → Type 0
IsShortScalar (scalar.Bool b) = Unit {0}
IsShortScalar (scalar.Word n) = IsShort n

pub record IsShortRow (row : Row) : Type 0 where
  pub args : AllByRecursion IsShort row.args
  pub value : IsShortScalar row.value

pub record IsShortTable (t : Table) : Type 0 where
  pub default : IsShortScalar t.default
  pub rows : AllByRecursion IsShortRow t.rows

-- all words of a trail have 64 bits, as those of the program have
pub record HasShortWords (t : Trail) : Type 0 where
  pub tables : AllByRecursion IsShortTable t.interp
  pub values : AllByRecursion IsShortTable (map table_of_value t.state)
  pub inputs : AllByRecursion (AllByRecursion IsShortScalar) t.inputs

abbrev pub Has64Bits : Case → Type 0
Has64Bits c = HasShortWords (trail_of c)
