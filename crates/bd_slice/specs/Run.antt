-- The values of a run of a case, each by its subject: of states, of the cycles between them, and the invariant's.
use Rattle.std.specs.Prelude.{ℕ, List, [], false, slice_index_or}
use Rattle.bd_model.specs.DesignView.{DesignView, LocalView}
use Rattle.bd_model.specs.Table.{read}
use Rattle.bd_model.specs.Value.{Env, truth, scalar_of, memory_of, value_of, let_values}
use Rattle.bd_model.specs.Cycle.{idle_inputs}
use Rattle.bd_model.specs.declared.table.Scalar.{Scalar}
use Rattle.bd_model.specs.declared.table.Scalar.TheVariants as scalar
use Rattle.bd_model.specs.declared.table.Value.{Value}
use Rattle.bd_model.specs.declared.case.Case.{Case}
use Rattle.bd_slice.specs.Columns.{column_state, shown}
use Rattle.bd_slice.specs.declared.place.Column.{Column}
use Rattle.bd_slice.specs.declared.place.Column.TheVariants as column
use Rattle.bd_slice.specs.declared.place.Location.TheVariants as spot
use Rattle.bd_slice.specs.declared.subject.Cycle.{Cycle}
use Rattle.bd_slice.specs.declared.subject.Cycle.TheVariants as cycle
use Rattle.bd_slice.specs.declared.subject.Subject.{Subject}
use Rattle.bd_slice.specs.declared.subject.Subject.TheVariants as subject

-- the column in which a cycle begins; the invariant is valued after the case's cycle
abbrev pub begins_at : Cycle → Column
begins_at cycle.Case = column.Before 0
begins_at (cycle.FlushBefore n) = column.Before n
begins_at (cycle.FlushAfter n) = column.After n
begins_at (cycle.Step j) = column.Steps j
begins_at cycle.Invariant = column.After 0

-- the state in which a cycle begins
abbrev pub state_at : DesignView → Case → Cycle → List Value
state_at d c which = column_state d c (begins_at which)

-- the lets that a cycle values
abbrev pub lets_of : DesignView → Cycle → List LocalView
lets_of d (cycle.Step j) = d.spec.locals
lets_of d cycle.Invariant = d.inv_locals
lets_of d which = d.pipe.locals

-- the inputs of a cycle: the case's, those of flushing, or none
abbrev pub inputs_in : DesignView → Case → Cycle → List Scalar
inputs_in d c cycle.Case = c.inputs
inputs_in d c (cycle.FlushBefore n) =
    idle_inputs d.pipe c.interp (column_state d c (column.Before n))
inputs_in d c (cycle.FlushAfter n) =
    idle_inputs d.pipe c.interp (column_state d c (column.After n))
inputs_in d c (cycle.Step j) = []
inputs_in d c cycle.Invariant = []

-- the values of a cycle's lets
abbrev pub let_values_in : DesignView → Case → Cycle → List Value
let_values_in d c which =
    let_values c.interp (state_at d c which) (inputs_in d c which) (lets_of d which)

-- what names stand for in a cycle
abbrev pub env_in : DesignView → Case → Cycle → Env
env_in d c which = record {
  interp = c.interp;
  state = state_at d c which;
  inputs = inputs_in d c which;
  locals = let_values_in d c which;
}

-- the word of a memory at an address
abbrev pub word_at : Value → ℕ → Scalar
word_at v a = scalar.Word (read (memory_of v) a)

-- a value of the run: false where it isn't there or is a memory, and 0 where a memory isn't one
abbrev pub subject_value : DesignView → Case → Subject → Scalar
subject_value d c (subject.Latch which i) = shown d c which (spot.Latch i)
subject_value d c (subject.Cell which i a) = shown d c which (spot.Cell i a)
subject_value d c (subject.Input which i) =
    slice_index_or (inputs_in d c which) i (scalar.Bool false)
subject_value d c (subject.Let which i) =
    scalar_of (slice_index_or (let_values_in d c which) i (truth false))
subject_value d c (subject.LetCell which i a) =
    word_at (slice_index_or (let_values_in d c which) i (truth false)) a
subject_value d c subject.Invariant = scalar_of (value_of (env_in d c cycle.Invariant) d.inv)
