-- The world of a case (Burch and Dill 1994): its tables for the functions, its values for the first latches,
-- memories and inputs, and words for the fresh addresses.
use Rattle.std.specs.Prelude.{◌≡◌, ℕ, false, List, [], ◌∷◌, map, slice_index_or}
use Rattle.bd_model.specs.Table.{read}
use Rattle.bd_model.specs.Value.{truth, table_of, no_table}
use Rattle.bd_model.specs.Fits.{InterpFits}
use Rattle.bd_model.specs.DesignView.{DesignView}
use Rattle.bd_model.specs.declared.table.Scalar.{Scalar}
use Rattle.bd_model.specs.declared.table.Scalar.TheVariants as scalar
use Rattle.bd_model.specs.declared.table.Row.{Row}
use Rattle.bd_model.specs.declared.table.Slot.{Slot}
use Rattle.bd_model.specs.declared.table.Table.{Table}
use Rattle.bd_model.specs.declared.table.Value.{Value}
use Rattle.bd_model.specs.declared.table.Value.TheVariants as value
use Rattle.bd_terms.specs.declared.node.Sym.TheVariants as sym
use Rattle.bd_terms.specs.Denotation.{World, Denoted, Truth, Word, Contents}

-- a table of no argument
abbrev pub constant : Scalar → Table
constant x = record { default = x; rows = [] }

abbrev pub slot_row : Slot → Row
slot_row s = record { args = s.address ∷ []; value = scalar.Word s.value }

-- a value as a table: a scalar as a default, a memory with a row for each of its rows
abbrev pub value_table : Value → Table
value_table (value.Scalar x) = constant x
value_table (value.Memory m) =
    record { default = scalar.Word m.default; rows = map slot_row m.rows }

-- an interpretation, a state, inputs and addresses put together
abbrev pub world_of : List Table → List Value → List Scalar → List ℕ → World
world_of interp state inputs addresses (sym.Function i) = table_of interp i
world_of interp state inputs addresses (sym.Entry i) =
    value_table (slice_index_or state i (truth false))
world_of interp state inputs addresses (sym.Input i) =
    constant (slice_index_or inputs i (scalar.Bool false))
world_of interp state inputs addresses (sym.Address i) =
    constant (scalar.Word (slice_index_or addresses i 0))
world_of interp state inputs addresses (sym.Var n) = no_table

-- what a value is as a denotation: a memory is what it reads
abbrev pub denotes_scalar : Scalar → Denoted
denotes_scalar (scalar.Bool b) = Truth b
denotes_scalar (scalar.Word n) = Word n

abbrev pub denotes_value : Value → Denoted
denotes_value (value.Scalar x) = denotes_scalar x
denotes_value (value.Memory m) = Contents (read m)

-- a world in which the design's functions have the tables of an interpretation that fits
pub record IsWorldOf (d : DesignView) (interp : List Table) (w : World) : Type 0 where
  pub fits : InterpFits d interp
  pub functions : (f : ℕ) → w (sym.Function f) ≡ table_of interp f
